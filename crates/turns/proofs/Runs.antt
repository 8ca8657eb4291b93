-- The laws of runs and of turns.
use mathlib.Core.Path.{◌≡◌, refl, sym, ap, ap₂, subst, subst₂, ◌∙◌}
use mathlib.Core.Bool.{Bool, true, false, not}
use mathlib.Core.Option.{Option, none, some}
use mathlib.Core.List.{List, [], ◌++◌}
use Prim.Native.Nat.{ℕ, zero, suc, ◌+◌, ◌-◌, ◌≤◌, ◌<◌}
use native.Mathlib.Nat.{add-zero, sub-zero}
use native.Mathlib.Omega.{arith}
use lib.Dec.{leb}
use lib.ListN.{length, take, drop, replicate, length-append, length-drop, length-replicate}
use lib.Seq.{length-take-le, take_at, drop_at, drop-drop}
use borrow.Author.Tests.{le-leb, lt-leb, leb-true, leb-false}
use Rattle.theory.specs.Buffers.{over, put, padded}
use Rattle.step.proofs.Ruled.{next-on}
use Rattle.words.proofs.Writes.{over-self, drop-over, take-over, over-append, over-over, over-same}
use Rattle.theory.specs.Syntax.{pick}
use Rattle.splice.specs.Right.{placed}
use Rattle.std.specs.Prelude.{Option as Maybe, Some, None}
use Rattle.step.specs.declared.Next.{Next}
use Rattle.step.specs.declared.Next.TheVariants.{Made, Over, Nothing}
use Rattle.std.specs.declared.ops.ControlFlow.{ControlFlow}
use Rattle.std.specs.declared.ops.ControlFlow.TheVariants.{Continue, Break}
use Rattle.turns.specs.declared.round.Stop.{Stop}
use Rattle.turns.specs.declared.round.Outcome.{Outcome}
use Rattle.turns.specs.declared.run.Ending.{Ending}
use Rattle.turns.specs.declared.run.Ending.TheVariants.{Done, Out, Big}
use Rattle.turns.specs.declared.buffers.Buffers.{Buffers}
use Rattle.turns.specs.declared.run.Ran.{Ran}
use Rattle.rules.specs.declared.finding.Fitting.{Fitting}
use Rattle.place.specs.Noted.{OnPath}
use Rattle.place.specs.declared.Trail.{Trail}
use Rattle.in_place.specs.InPlace.{Leads, Passing}
use Rattle.in_place.specs.declared.Passed.{Passed}
use Rattle.step.specs.Next.{next_in, made, placed_next, OnNext}
use Rattle.turns.specs.Buffers.{source, first_of, second_of, term_of, Lent}
use Rattle.turns.specs.Run.{Rounded, Drove, Leaves, stop_at, decided, Last, stop, go, run, run_from, ran_of}

-- ---- a run's first turn
module _ (next : List ℕ → Option (List ℕ)) (room n : ℕ) (t : List ℕ) where
  pub run-done : (left : ℕ) → next t ≡ none → run next room left n t ≡ record { ending = Done; steps = n; term = t }
  run-done zero e = ap (stop n t) e
  run-done (suc left) e = ap (go room n t (run next room left (n + 1))) e

  pub run_out : (u : List ℕ) → next t ≡ some u → run next room zero n t ≡ record { ending = Out; steps = n; term = t }
  run_out u e = ap (stop n t) e

  pub run-big : (left : ℕ) (u : List ℕ) → next t ≡ some u → room < length u → run next room (suc left) n t ≡ record { ending = Big; steps = n + 1; term = t }
  run-big left u e h = ap (go room n t (run next room left (n + 1))) e ∙ simp (lt-leb (length u) room h)

  pub run_on : (left : ℕ) (u : List ℕ) → next t ≡ some u → length u ≤ room → run next room (suc left) n t ≡ run next room left (n + 1) u
  run_on left u e h = ap (go room n t (run next room left (n + 1))) e ∙ simp (le-leb (length u) room h)

-- steps that lead from a term to another are steps of the run
pub run-leads : (next : List ℕ → Option (List ℕ)) (room m left n : ℕ) (t u : List ℕ) → Leads next room m t u → m ≤ left → run next room left n t ≡ run next room (left - m) (n + m) u
run-leads next room zero left n t u h k =
    ap (λ (x : List ℕ). run next room left n x) h ∙ ap₂ (λ (i j : ℕ). run next room i j u) (sym (sub-zero left)) (sym (add-zero n))
run-leads next room (suc m) left n t u h k =
    let i : left ≡ suc (left - 1) = omega arith in
    let a : left - 1 - m ≡ left - suc m = omega arith in
    let b : n + 1 + m ≡ n + suc m = omega arith in
    ap (λ (l : ℕ). run next room l n t) i ∙ run_on next room n t (left - 1) h.0 h.1.0 h.1.1.0
    ∙ run-leads next room m (left - 1) (n + 1) h.0 u h.1.1.1 (omega arith) ∙ ap₂ (λ (i j : ℕ). run next room i j u) a b

-- ---- what a step's answer says of the next term
never : {A : Type 0} → ◌≡◌ {A = ℕ} 0 1 → A
never e = absurd (omega arith)

not-nothing : (b : Bool) (l : ℕ) → made (pick b (Some l) None) ≡ Nothing → ◌≡◌ {A = ℕ} 0 1
not-nothing true l e = cc
not-nothing false l e = cc

pub says_nothing : (room : ℕ) (o : Option (List ℕ)) → next_in room o ≡ Nothing → o ≡ none
says_nothing room none e = refl
says_nothing room (some u) e = never (not-nothing (leb (length u) room) (length u) e)

over-of : (b : Bool) (l m : ℕ) → leb l m ≡ b → made (pick b (Some l) None) ≡ Over → m < l
over-of true l m t e = never (cc)
over-of false l m t e = leb-false l m t

pub says-over : (room : ℕ) (o : Option (List ℕ)) → next_in room o ≡ Over → (u : List ℕ) × ((o ≡ some u) × (room < length u))
says-over room none e = never (cc)
says-over room (some u) e = (u, (refl, over-of (leb (length u) room) (length u) room refl e))

made_of : (b : Bool) (l m n : ℕ) → leb l m ≡ b → made (pick b (Some l) None) ≡ Made n → (l ≡ n) × (n ≤ m)
made_of true l m n t e = let p : l ≡ n = cc in (p, omega (arith, leb-true l m t))
made_of false l m n t e = never (cc)

pub says-made : (room n : ℕ) (o : Option (List ℕ)) → next_in room o ≡ Made n → (u : List ℕ) × ((o ≡ some u) × ((length u ≡ n) × (n ≤ room)))
says-made room n none e = never (cc)
says-made room n (some u) e = (u, (refl, made_of (leb (length u) room) (length u) room n refl e))

-- ---- a round: steps in place and then a turn, and a turn alone
module _ {ks : List ℕ} {next : List ℕ → Option (List ℕ)} {room steps allowance : ℕ} {t o o' : List ℕ} {trail : Trail} {made : Next} {follows : ControlFlow Stop ℕ} (h : steps ≤ allowance) where
  pub rounded : {find : List ℕ → Maybe Fitting} {t' : List ℕ} {p : Passed} → Passing ks find next room (allowance - steps) t t' trail p
      → OnNext ks (next t') trail.places.now trail.last → made ≡ next_in room (next t') → o' ≡ placed_next room (next t') o
      → follows ≡ decided made (steps + p.steps) allowance
      → Rounded ks next room steps allowance t o t' o' trail (record { next = follows; steps = steps + p.steps })
  rounded {find} {t'} {p} g on q e d =
      let m : p.steps ≡ steps + p.steps - steps = omega arith in
      record {
        more = omega arith;
        within = omega (arith, g.within);
        leads = subst (λ (k : ℕ). Leads next room k t t') m g.leads;
        other = e;
        move = d ∙ ap (λ (x : Next). decided x (steps + p.steps) allowance) q;
        on = on;
      }

  pub rounded-by_turn : OnNext ks (next t) trail.places.now trail.last → made ≡ next_in room (next t) → o' ≡ placed_next room (next t) o
      → follows ≡ decided made steps allowance
      → Rounded ks next room steps allowance t o t o' trail (record { next = follows; steps = steps })
  rounded-by_turn on q e d =
      let none : 0 ≡ steps - steps = omega arith in
      record {
        more = omega arith;
        within = h;
        leads = subst (λ (k : ℕ). Leads next room k t t) none refl;
        other = e;
        move = d ∙ ap (λ (x : Next). decided x steps allowance) q;
        on = on;
      }

-- where the next term fits, it stands in the other buffer; past the room nothing is changed
placed-fits : (room : ℕ) (u d : List ℕ) → length u ≤ room → room ≤ length d → take (length u) (placed room u d) ≡ u
placed-fits room u d h k = ap (λ (b : Bool). take (length u) (pick b (over u d) d)) (le-leb (length u) room h) ∙ take-over u d (omega arith)

drop-pick : (b : Bool) (room : ℕ) (u d : List ℕ) → leb (length u) room ≡ b → drop room (pick b (over u d) d) ≡ drop room d
drop-pick true room u d t = drop-over room u d (leb-true (length u) room t)
drop-pick false room u d t = refl

drop-placed : (room : ℕ) (o : Option (List ℕ)) (d : List ℕ) → drop room (placed_next room o d) ≡ drop room d
drop-placed room none d = refl
drop-placed room (some u) d = drop-pick (leb (length u) room) room u d refl

drop-further : (size room : ℕ) (x y : List ℕ) → size ≤ room → drop size x ≡ drop size y → drop room x ≡ drop room y
drop-further size room x y h e =
    let z : size + (room - size) ≡ room = omega arith in
    ap (λ (k : ℕ). drop k x) (sym z) ∙ sym (drop-drop (room - size) size x) ∙ ap (drop (room - size)) e ∙ drop-drop (room - size) size y ∙ ap (λ (k : ℕ). drop k y) z

-- ---- what a round makes of a run
module _ {ks : List ℕ} {next : List ℕ → Option (List ℕ)} {room steps allowance : ℕ} {t o t' o' : List ℕ} {trail : Trail} {r : Outcome} (h : Rounded ks next room steps allowance t o t' o' trail r) where
  abbrev answer : Next
  answer = next_in room (next t')

  one_left : r.steps < allowance → allowance - r.steps ≡ suc (allowance - (r.steps + 1))
  one_left k = omega arith

  -- a round after which the run stops
  abbrev Stopped : Stop → Type 0
  Stopped at = run next room (allowance - r.steps) r.steps t' ≡ record { ending = at.ending; steps = at.steps; term = t' }

  stop-as : (e : Ending) (m : ℕ) (at : Stop) → stop_at e m ≡ Break at → Stopped (record { ending = e; steps = m }) → Stopped at
  stop-as e m at q k = let same : record { ending = e; steps = m } ≡ at = cc in subst Stopped same k

  stops-out : (u : List ℕ) → next t' ≡ some u → allowance ≤ r.steps → Stopped (record { ending = Out; steps = r.steps })
  stops-out u e k = let none_left : allowance - r.steps ≡ 0 = omega arith in ap (λ (m : ℕ). run next room m r.steps t') none_left ∙ run_out next room r.steps t' u e

  stops-big : answer ≡ Over → r.steps < allowance → Stopped (record { ending = Big; steps = r.steps + 1 })
  stops-big q k =
      let u = says-over room (next t') q in
      ap (λ (m : ℕ). run next room m r.steps t') (one_left k) ∙ run-big next room r.steps t' (allowance - (r.steps + 1)) u.0 u.1.0 u.1.1

  stopped : (at : Stop) → decided answer r.steps allowance ≡ Break at → Stopped at
  unfolding decided
  stopped at q = by answer refl q
    where
      over : (b : Bool) → leb allowance r.steps ≡ b → answer ≡ Over → pick b (stop_at Out r.steps) (stop_at Big (r.steps + 1)) ≡ Break at → Stopped at
      over true e a q = let u = says-over room (next t') a in stop-as Out r.steps at q (stops-out u.0 u.1.0 (leb-true allowance r.steps e))
      over false e a q = stop-as Big (r.steps + 1) at q (stops-big a (leb-false allowance r.steps e))

      made_one : (m : ℕ) (b : Bool) → leb allowance r.steps ≡ b → answer ≡ Made m → pick b (stop_at Out r.steps) (Continue m) ≡ Break at → Stopped at
      made_one m true e a q = let u = says-made room m (next t') a in stop-as Out r.steps at q (stops-out u.0 u.1.0 (leb-true allowance r.steps e))
      made_one m false e a q = never (cc)

      by : (n : Next) → answer ≡ n → decided n r.steps allowance ≡ Break at → Stopped at
      by Nothing a q = stop-as Done r.steps at q (run-done next room r.steps t' (allowance - r.steps) (says_nothing room _ a))
      by Over a q = over (leb allowance r.steps) refl a q
      by (Made m) a q = made_one m (leb allowance r.steps) refl a q

  round-stopped : (at : Stop) → r.next ≡ Break at → Stopped at
  round-stopped at q = stopped at (sym h.move ∙ q)

  -- a round after which it goes on
  record More (n : ℕ) : Type 0 where
    made : answer ≡ Made n
    left : r.steps < allowance

  more : (n : ℕ) → decided answer r.steps allowance ≡ Continue n → More n
  unfolding decided
  more n q = by answer refl q
    where
      over : (b : Bool) → pick b (stop_at Out r.steps) (stop_at Big (r.steps + 1)) ≡ Continue n → More n
      over true q = never (cc)
      over false q = never (cc)

      made_one : (m : ℕ) (b : Bool) → leb allowance r.steps ≡ b → answer ≡ Made m → pick b (stop_at Out r.steps) (Continue m) ≡ Continue n → More n
      made_one m true e a q = never (cc)
      made_one m false e a q = let k : m ≡ n = cc in record { made = a ∙ ap Made k; left = leb-false allowance r.steps e }

      by : (o : Next) → answer ≡ o → decided o r.steps allowance ≡ Continue n → More n
      by Nothing a q = never (cc)
      by Over a q = over (leb allowance r.steps) q
      by (Made m) a q = made_one m (leb allowance r.steps) refl a q

  record Onward (n : ℕ) : Type 0 where
    left : r.steps < allowance
    fits : n ≤ room
    rest : run next room (allowance - r.steps) r.steps t' ≡ run next room (allowance - (r.steps + 1)) (r.steps + 1) (take n o')
    on_path : OnPath ks (take n o') trail.places.now trail.last

  goes_on : room ≤ length o → (n : ℕ) → r.next ≡ Continue n → Onward n
  goes_on long n q =
      let m = more n (sym h.move ∙ q) in
      let says = says-made room n (next t') m.made in
      let u = says.0 in
      let short : length u ≤ room = omega arith in
      let made : take n o' ≡ u =
      ap (λ (k : ℕ). take k o') (sym says.1.1.0) ∙ ap (take (length u)) (h.other ∙ ap (λ (x : Option (List ℕ)). placed_next room x o) says.1.0) ∙ placed-fits room u o short long in
      record {
        left = m.left;
        fits = says.1.1.1;
        rest = ap (λ (k : ℕ). run next room k r.steps t') (one_left m.left) ∙ run_on next room r.steps t' (allowance - (r.steps + 1)) u says.1.0 short
            ∙ ap (run next room (allowance - (r.steps + 1)) (r.steps + 1)) (sym made);
        on_path = subst (λ (x : List ℕ). OnPath ks x trail.places.now trail.last) (sym made) (subst (λ (x : Option (List ℕ)). OnNext ks x trail.places.now trail.last) says.1.0 h.on);
      }

  -- past the room the turn leaves the other buffer as it was
  round-rests : drop room o' ≡ drop room o
  round-rests = ap (drop room) h.other ∙ drop-placed room (next t') o

-- ---- two buffers, the one that came first and the other, or the other way round
pub by_both : {A : Type 0} (P : A → A → Type 0) (flip : Bool) (x y x' y' : A) → P x' x → P y' y → P (source flip x' y') (source flip x y) × P (source flip y' x') (source flip y x)
by_both P false x y x' y' p q = (p, q)
by_both P true x y x' y' p q = (q, p)

-- the buffers changed over are the same two
pub changed_over : {A : Type 0} (flip : Bool) (x y : A) → source (not flip) y x ≡ source flip x y
changed_over false x y = refl
changed_over true x y = refl

-- the one of them that has the term
pub source-twice : {A : Type 0} (flip : Bool) (x y : A) → source flip (source flip x y) (source flip y x) ≡ x
source-twice false x y = refl
source-twice true x y = refl

-- ---- the rounds of a run from the term t₀ in buffers that held f₀ and s₀: f and s now, after so many steps
pub record Going (next : List ℕ → Option (List ℕ)) (room allowance : ℕ) (t₀ f₀ s₀ f s : List ℕ) (flip : Bool) (size steps : ℕ) : Type 0 where
  pub within : steps ≤ allowance
  pub fits : size ≤ room
  pub rest : run next room allowance 0 t₀ ≡ run next room (allowance - steps) steps (take size (source flip f s))
  pub first_rest : drop room f ≡ drop room f₀
  pub second_rest : drop room s ≡ drop room s₀
  pub first-length : length f ≡ length f₀
  pub second-length : length s ≡ length s₀

-- what stays from the room on, where it stays behind the term in the buffer that has it, and the other is as it was
two-rests : (flip : Bool) (room size : ℕ) (f s f' s' : List ℕ) → size ≤ room → drop size (source flip f' s') ≡ drop size (source flip f s) → source flip s' f' ≡ source flip s f
    → (drop room f' ≡ drop room f) × (drop room s' ≡ drop room s)
two-rests false room size f s f' s' h e q = (drop-further size room f' f h e, ap (drop room) q)
two-rests true room size f s f' s' h e q = (ap (drop room) q, drop-further size room s' s h e)

-- STEPS IN PLACE are steps of the run: what is left to run after them, and what stays of the buffers
pub settles : (next : List ℕ → Option (List ℕ)) (room allowance : ℕ) (t₀ f₀ s₀ f s f' s' : List ℕ) (flip : Bool) (size steps m : ℕ)
    → Going next room allowance t₀ f₀ s₀ f s flip size steps → steps ≤ m → m ≤ allowance → Leads next room (m - steps) (take size (source flip f s)) (take size (source flip f' s'))
    → drop size (source flip f' s') ≡ drop size (source flip f s) → source flip s' f' ≡ source flip s f → length f' ≡ length f → length s' ≡ length s
    → Going next room allowance t₀ f₀ s₀ f' s' flip size m
settles next room allowance t₀ f₀ s₀ f s f' s' flip size steps m g more within leads rest e lf ls =
    let rests = two-rests flip room size f s f' s' g.fits rest e in
    let left : allowance - steps - (m - steps) ≡ allowance - m = omega arith in
    let made : steps + (m - steps) ≡ m = omega arith in
    record {
      within = within;
      fits = g.fits;
      rest = g.rest ∙ run-leads next room (m - steps) (allowance - steps) steps (take size (source flip f s)) (take size (source flip f' s')) leads (omega arith)
          ∙ ap₂ (λ (i j : ℕ). run next room i j (take size (source flip f' s'))) left made;
      first_rest = rests.0 ∙ g.first_rest;
      second_rest = rests.1 ∙ g.second_rest;
      first-length = lf ∙ g.first-length;
      second-length = ls ∙ g.second-length;
    }

-- the same of the buffers b, which were b₀ as they came
abbrev pub Rounds : (List ℕ → Option (List ℕ)) → ℕ → Buffers → Buffers → ℕ → Type 0
Rounds next allowance b₀ b steps = Going next b₀.room allowance (term_of b₀) (first_of b₀) (second_of b₀) (first_of b) (second_of b) b.flip b.size steps

has-term : (b : Buffers) → take b.size (source b.flip (first_of b) (second_of b)) ≡ term_of b
has-term b = ap (take b.size) (source-twice b.flip b.term.now b.other.now)

-- what is behind the first words of a buffer t, of which there are so many, stays where those become u
module _ (size : ℕ) (t u : List ℕ) (l : length u ≡ length (take size t)) (fits : size ≤ length t) where
  count : length u ≡ size
  count = l ∙ length-take-le size t fits

  pub front : take size (u ++ drop size t) ≡ u
  front = take_at u (drop size t) size count

  pub behind : drop size (u ++ drop size t) ≡ drop size t
  behind = drop_at u (drop size t) size count

  pub same-length : length (u ++ drop size t) ≡ length t
  same-length = length-append u (drop size t) ∙ simp length-drop (omega (arith, count))

-- u is the term that the round leaves, at the front of the buffer that had it
module _ {ks : List ℕ} {next : List ℕ → Option (List ℕ)} {allowance steps : ℕ} {u o' : List ℕ} {trail : Trail} {r : Outcome} {b₀ b : Buffers} (g : Rounds next allowance b₀ b steps) (k : Lent b₀ b)
    (h : Rounded ks next b.room steps allowance (term_of b) b.other.now u o' trail r)
    (l : length u ≡ length (term_of b)) where
  abbrev t' : List ℕ
  t' = u ++ drop b.size b.term.now

  within : b.size ≤ length b.term.now
  within = omega (arith, b.size_le_room, b.room_le_term)

  now : Rounded ks next b₀.room steps allowance (term_of b) b.other.now u o' trail r
  now = subst (λ (room : ℕ). Rounded ks next room steps allowance (term_of b) b.other.now u o' trail r) k.room h

  -- once its steps in place are made
  has-u : take b.size (source b.flip (source b.flip t' b.other.now) (source b.flip b.other.now t')) ≡ u
  has-u = ap (take b.size) (source-twice b.flip t' b.other.now) ∙ front b.size b.term.now u l within

  in-place : Going next b₀.room allowance (term_of b₀) (first_of b₀) (second_of b₀) (source b.flip t' b.other.now) (source b.flip b.other.now t') b.flip b.size r.steps
  in-place =
      let y = b.other.now in
      let behind-u = behind b.size b.term.now u l within in
      let lengths = by_both (λ (x z : List ℕ). length x ≡ length z) b.flip b.term.now y t' y (same-length b.size b.term.now u l within) refl in
      settles next b₀.room allowance (term_of b₀) (first_of b₀) (second_of b₀) (first_of b) (second_of b) (source b.flip t' y) (source b.flip y t') b.flip b.size steps r.steps
      g h.more h.within (subst₂ (Leads next b₀.room (r.steps - steps)) (sym (has-term b)) (sym has-u) now.leads)
      (ap (drop b.size) (source-twice b.flip t' y) ∙ behind-u ∙ sym (ap (drop b.size) (source-twice b.flip b.term.now y)))
      (source-twice b.flip y t' ∙ sym (source-twice b.flip y b.term.now)) lengths.0 lengths.1

  left-of-u : run next b₀.room allowance 0 (term_of b₀) ≡ run next b₀.room (allowance - r.steps) r.steps u
  left-of-u = in-place.rest ∙ ap (run next b₀.room (allowance - r.steps) r.steps) has-u

  pub rests : (drop b₀.room (source b.flip t' o') ≡ drop b₀.room (first_of b₀)) × (drop b₀.room (source b.flip o' t') ≡ drop b₀.room (second_of b₀))
  rests =
      let both = by_both (λ (x y : List ℕ). drop b₀.room x ≡ drop b₀.room y) b.flip t' b.other.now t' o' refl (round-rests now) in
      (both.0 ∙ in-place.first_rest, both.1 ∙ in-place.second_rest)

  pub drove : (at : Stop) → r.next ≡ Break at → (b' : Buffers) → b'.term.now ≡ t' → b'.other.now ≡ o' → b'.flip ≡ b.flip → b'.size ≡ b.size
      → Drove (run next b₀.room allowance 0 (term_of b₀)) at b₀ b'
  drove at q b' et eo ef es =
      let ran : run next b₀.room allowance 0 (term_of b₀) ≡ record { ending = at.ending; steps = at.steps; term = u } = left-of-u ∙ round-stopped now at q in
      let term : term_of b' ≡ (run next b₀.room allowance 0 (term_of b₀)).term = ap₂ (λ (n : ℕ) (x : List ℕ). take n x) es et ∙ front b.size b.term.now u l within ∙ sym (ap (λ (x : Last). x.term) ran) in
      record {
        ending = sym (ap (λ (x : Last). x.ending) ran);
        steps = sym (ap (λ (x : Last). x.steps) ran);
        len = sym (length-take-le b'.size b'.term.now (omega (arith, b'.size_le_room, b'.room_le_term))) ∙ ap length term;
        term = term;
        first_rest = ap (drop b₀.room) (ap₂ (source b'.flip) et eo ∙ ap (λ (f : Bool). source f t' o') ef) ∙ rests.0;
        second_rest = ap (drop b₀.room) (ap₂ (source b'.flip) eo et ∙ ap (λ (f : Bool). source f o' t') ef) ∙ rests.1;
      }

  pub record Onwards (n : ℕ) : Type 0 where
    pub left : r.steps < allowance
    pub fits : n ≤ b.room
    pub rest : run next b₀.room allowance 0 (term_of b₀) ≡ run next b₀.room (allowance - (r.steps + 1)) (r.steps + 1) (take n o')
    pub on_path : OnPath ks (take n o') trail.places.now trail.last

  pub onward : (n : ℕ) → r.next ≡ Continue n → Onwards n
  onward n q =
      let on = goes_on now (omega (arith, k.room, b.room_le_other)) n q in
      record {
        left = on.left;
        fits = omega (arith, on.fits, k.room);
        rest = left-of-u ∙ on.rest;
        on_path = on.on_path;
      }

  -- the buffers b' are b after the round, changed over, with a term of n words
  module _ {n : ℕ} (b' : Buffers) (on : Onwards n) (et : b'.term.now ≡ o') (eo : b'.other.now ≡ t') (lo : length o' ≡ length b.other.now) (ef : b'.flip ≡ not b.flip) (es : b'.size ≡ n) where
    term-is : term_of b' ≡ take n o'
    term-is = ap₂ (λ (m : ℕ) (x : List ℕ). take m x) es et

    first-is : first_of b' ≡ source b.flip t' o'
    first-is = ap₂ (source b'.flip) et eo ∙ ap (λ (f : Bool). source f o' t') ef ∙ changed_over b.flip t' o'

    second-is : second_of b' ≡ source b.flip o' t'
    second-is = ap₂ (source b'.flip) eo et ∙ ap (λ (f : Bool). source f t' o') ef ∙ changed_over b.flip o' t'

    lengths : (length (source b.flip t' o') ≡ length (first_of b₀)) × (length (source b.flip o' t') ≡ length (second_of b₀))
    lengths =
        let both = by_both (λ (x y : List ℕ). length x ≡ length y) b.flip t' b.other.now t' o' refl lo in
        (both.0 ∙ in-place.first-length, both.1 ∙ in-place.second-length)

    pub going_on : Rounds next allowance b₀ b' (r.steps + 1)
    going_on =
        record {
          within = omega (arith, on.left);
          fits = omega (arith, on.fits, es, k.room);
          rest = on.rest ∙ ap (run next b₀.room (allowance - (r.steps + 1)) (r.steps + 1)) (sym term-is ∙ sym (has-term b'));
          first_rest = ap (drop b₀.room) first-is ∙ rests.0;
          second_rest = ap (drop b₀.room) second-is ∙ rests.1;
          first-length = ap length first-is ∙ lengths.0;
          second-length = ap length second-is ∙ lengths.1;
        }

    pub lent_on : b'.term.ghost_name ≡ b.other.ghost_name → b'.other.ghost_name ≡ b.term.ghost_name → b'.room ≡ b.room → Lent b₀ b'
    lent_on nt mo er =
        record {
          first = ap₂ (source b'.flip) nt mo ∙ ap (λ (f : Bool). source f b.other.ghost_name b.term.ghost_name) ef ∙ changed_over b.flip b.term.ghost_name b.other.ghost_name ∙ k.first;
          second = ap₂ (source b'.flip) mo nt ∙ ap (λ (f : Bool). source f b.term.ghost_name b.other.ghost_name) ef ∙ changed_over b.flip b.other.ghost_name b.term.ghost_name ∙ k.second;
          first_length = ap length first-is ∙ lengths.0;
          second_length = ap length second-is ∙ lengths.1;
          room = er ∙ k.room;
        }

    pub path_on : OnPath ks (term_of b') trail.places.now trail.last
    path_on = subst (λ (x : List ℕ). OnPath ks x trail.places.now trail.last) (sym term-is) on.on_path

-- ---- the buffers set in order
pub padded-over : (room size : ℕ) (t f f' f'' : List ℕ) → length t ≡ size → f' ≡ over t f → f'' ≡ put size (replicate (room - size) 0) f' → f'' ≡ over (padded room t) f
padded-over room size t f f' f'' l e q =
    q
    ∙ ap (put size (replicate (room - size) 0)) e
    ∙ ap (λ (k : ℕ). put k (replicate (room - k) 0) (over t f)) (sym l)
    ∙ over-append t (replicate (room - length t) 0) f

length-padded : (room : ℕ) (t : List ℕ) → length t ≤ room → length (padded room t) ≡ room
length-padded room t h = length-append t (replicate (room - length t) 0) ∙ simp length-replicate (omega arith)

pub zeros-same : (room : ℕ) (x y : List ℕ) → length x ≡ length y → drop room x ≡ drop room y → over (replicate room 0) x ≡ over (replicate room 0) y
zeros-same room x y h e =
    let long : length {A = ℕ} (replicate room 0) ≡ room = length-replicate room 0 in
    over-same (replicate room 0) x y h (ap (λ (n : ℕ). drop n x) long ∙ e ∙ sym (ap (λ (n : ℕ). drop n y) long))

module _ {l : Last} {at : Stop} {b b' : Buffers} (d : Drove l at b b') (k : Lent b b') where
  long : length (padded b.room l.term) ≡ b.room
  long = length-padded b.room l.term (omega (arith, b'.size_le_room))

  settled-first : over (padded b'.room (term_of b')) (first_of b') ≡ over (padded b.room l.term) (first_of b)
  settled-first =
      ap₂ (λ (n : ℕ) (t : List ℕ). over (padded n t) (first_of b')) k.room d.term
      ∙ over-same (padded b.room l.term) (first_of b') (first_of b) k.first_length (ap (λ (n : ℕ). drop n (first_of b')) long ∙ d.first_rest ∙ sym (ap (λ (n : ℕ). drop n (first_of b)) long))

  settled-second : over (replicate b'.room 0) (second_of b') ≡ over (replicate b.room 0) (second_of b)
  settled-second = ap (λ (n : ℕ). over (replicate n 0) (second_of b')) k.room ∙ zeros-same b.room (second_of b') (second_of b) k.second_length d.second_rest

  settled-answer : ◌≡◌ {A = Ran} (record { ending = at.ending; steps = at.steps; len = b'.size }) (ran_of l)
  settled-answer = cc (d.ending, d.steps, d.len)

  pub settled : (f s : List ℕ) → f ≡ over (padded b'.room (term_of b')) (first_of b') → s ≡ over (replicate b'.room 0) (second_of b')
      → Leaves ran_of l b.room (record { ending = at.ending; steps = at.steps; len = b'.size }) (first_of b) f (second_of b) s
  settled f s p q = record { value = settled-answer; first_after = p ∙ settled-first; second_after = q ∙ settled-second }

-- ---- the start of a run
module _ (next : List ℕ → Option (List ℕ)) (room allowance : ℕ) (t : List ℕ) where
  start_fits : length t ≤ room → run_from next room allowance t ≡ run next room allowance 0 t
  start_fits h = ap (λ (b : Bool). pick b (run next room allowance 0 t) (record { ending = Big; steps = 0; term = [] })) (le-leb (length t) room h)

  pub started : (f x f' s s' : List ℕ) (r : Ran) → length t ≤ room → room ≤ length f → x ≡ over t f
      → Leaves ran_of (run next room allowance 0 (take (length t) x)) room r x f' s s' → Leaves ran_of (run_from next room allowance t) room r f f' s s'
  started f x f' s s' r h k e ran =
      let same : run next room allowance 0 (take (length t) x) ≡ run_from next room allowance t =
      ap (λ (l : List ℕ). run next room allowance 0 (take (length t) l)) e ∙ ap (run next room allowance 0) (take-over t f (omega arith)) ∙ sym (start_fits h) in
      record {
        value = ran.value ∙ ap ran_of same;
        first_after = ran.first_after
            ∙ ap (λ (l : Last). over (padded room l.term) x) same
            ∙ ap (over (padded room (run_from next room allowance t).term)) e
            ∙ over-over (padded room (run_from next room allowance t).term) t f (rw (length-append, length-replicate) (omega arith));
        second_after = ran.second_after;
      }

-- the laws by which the check finds the code's steps: of a round, and of the buffers brought back
pub ruleset round_laws = (next-on, rounded, rounded-by_turn)

pub ruleset back_laws = (over-self)
