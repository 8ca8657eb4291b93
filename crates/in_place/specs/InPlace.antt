-- Steps after which the term differs in one word: they are made where it stands. The rules are a call's first, f(x1..xn) -> f_1(x1..xn),
-- and a test's, f_i(x1..xn) -> guard(isData(xi), f_i+1(x1..xn)), which leads to f_i+1(x1..xn) where xi is a value.
use Rattle.std.specs.Prelude.{Option as Maybe, Some, None, ℕ, zero, suc, ◌+◌, ◌-◌, ◌*◌, ◌≤◌, ◌<◌, ◌≡◌, List, [], ◌∷◌, length, get_or, take, drop, set}
use Rattle.std.proofs.Math.Option.{Option, some}
use Rattle.words.specs.Terms.{arity_of, succs_end}
use Rattle.rules.specs.Usual.{Valued}
use Rattle.rules.specs.declared.finding.Fitting.{Fitting}
use Rattle.place.specs.declared.Site.{Site}
use Rattle.place.specs.Path.{site_at}
use Rattle.place.specs.Noted.{Numbered}
use Rattle.place.specs.declared.Trail.{Trail}
use Rattle.in_place.specs.declared.Change.{Change}
use Rattle.in_place.specs.declared.Passed.{Passed}

-- the term t leads to u in m steps, and each term on the way fits the room
abbrev pub Leads : (List ℕ → Option (List ℕ)) → ℕ → ℕ → List ℕ → List ℕ → Type 0
Leads next room zero t u = t ≡ u
Leads next room (suc m) t u = (v : List ℕ) × ((next t ≡ some v) × ((length v ≤ room) × Leads next room m v u))

-- a change at a site of the term t: so many steps, one at least, lead to t with that word at the place; where nothing fits, there is none
abbrev pub Changes : (List ℕ → Option (List ℕ)) → ℕ → Maybe Site → List ℕ → Maybe Change → Type 0
Changes next room (Some s) t (Some c) = (0 < c.steps) × Leads next room c.steps t (set t s.place c.word)
Changes next room (Some s) t None = Unit {0}
Changes next room None t c = c ≡ None

-- steps are made in place, at most `left`: from the words t to u; what comes next is at the site, up to which the trail is noted
pub record Passing (ks : List ℕ) (find : List ℕ → Maybe Fitting) (next : List ℕ → Option (List ℕ)) (room left : ℕ) (t u : List ℕ) (trail : Trail) (r : Passed) : Type 0 where
  pub within : r.steps ≤ left
  pub leads : Leads next room r.steps t u
  pub site : r.site ≡ site_at ks find u 0
  pub numbered : Numbered ks u trail.places.now r.site trail.last

-- that something is not so
abbrev pub Never : Type 0 → Type 0
Never P = P → ⊥

-- n variables in order, the first of which is x
abbrev pub vars : ℕ → ℕ → List ℕ
vars x zero = []
vars x (suc n) = x ∷ vars (suc x) n

-- the stored rule begins with a(x1..xn), where a is a function's symbol or an auxiliary's
pub record Calls (rule : List ℕ) (a n : ℕ) : Type 0 where
  pub few : n ≤ 8
  pub high : 256 ≤ a
  pub long : n + 3 ≤ length rule
  pub count : get_or rule 0 0 ≡ n + 1
  pub root : get_or rule 2 0 ≡ a
  pub all : take n (drop 3 rule) ≡ vars 64 n

-- and goes on with b(x1..xn)
pub record Renames (rule : List ℕ) (n : ℕ) : Type 0 where
  pub long : length rule ≡ 2 * n + 4
  pub high : 256 ≤ get_or rule (n + 3) 0
  pub all : take n (drop (n + 4) rule) ≡ vars 64 n

-- or with guard(isData(x), b(x1..xn)), where x is one of the variables and b has n parts
pub record Tests (ks rule : List ℕ) (n : ℕ) : Type 0 where
  pub long : length rule ≡ 2 * n + 7
  pub guard : get_or rule (n + 3) 0 ≡ 7
  pub test : get_or rule (n + 4) 0 ≡ 9
  pub variable : 64 ≤ get_or rule (n + 5) 0
  pub bound : get_or rule (n + 5) 0 - 64 < n
  pub high : 256 ≤ get_or rule (n + 6) 0
  pub parts : arity_of ks (get_or rule (n + 6) 0) ≡ n
  pub all : take n (drop (n + 7) rule) ≡ vars 64 n

-- at the place q of the term t stands a value, whose test has so many steps, and as many words more fit the room
pub record Passes (t : List ℕ) (q room steps : ℕ) : Type 0 where
  pub value : Valued t q
  pub count : steps ≡ succs_end (drop q t) q - q + 3
  pub fits : length t + steps ≤ room
