-- Writes one after the other are one write; the turns of a loop over numbers from 0.
use mathlib.Core.Path.{◌≡◌, refl, sym, ap, ◌∙◌}
use mathlib.Core.List.{List, [], ◌++◌, append_assoc, append-nil}
use Prim.Native.Nat.{ℕ, zero, suc, ◌+◌, ◌-◌, ◌≤◌, ◌<◌}
use native.Mathlib.Nat.{add_assoc}
use native.Mathlib.Numerals.{add-one}
use native.Mathlib.Omega.{arith}
use lib.ListN.{length, length-append}
use Rattle.theory.specs.Buffers.{put}
use Rattle.words.proofs.Writes.{put-append, put-none, length-put}
use Rattle.theory.specs.Tree.{Rule}
use Rattle.theory.specs.Words.{stored_rules}
use Rattle.theory.specs.Translation.{gather, numbers}
use Rattle.theory.proofs.Readability.{list-append}
use Rattle.generated.specs.declared.writing.Writer.{Writer}
use Rattle.generated.specs.Wrote.{Room, Wrote}

-- nothing is written
pub wrote_none : (u : Writer) → Wrote [] u u
wrote_none u = record { place = omega arith; words = sym (put-none u.at u.dst.now); same_slice = refl }

-- a slice keeps its length
pub wrote-length : {ws : List ℕ} {u v : Writer} → Wrote ws u v → length v.dst.now ≡ length u.dst.now
wrote-length {ws} {u} w = ap length w.words ∙ length-put u.at ws u.dst.now

-- words written just past others
pub wrote_then : {s t : List ℕ} {u v w : Writer} → Wrote s u v → Wrote t v w → Wrote (s ++ t) u w
wrote_then {s} {t} {u} {v} {w} a b =
    record {
      place = b.place ∙ ap (◌+ length t) a.place ∙ add_assoc u.at (length s) (length t) ∙ ap (u.at +◌) (sym (length-append s t));
      words = b.words ∙ ap (λ (k : ℕ). put k t v.dst.now) a.place ∙ ap (put (u.at + length s) t) a.words ∙ put-append u.at s t u.dst.now;
      same_slice = b.same_slice ∙ a.same_slice;
    }

pub wrote_as : {s t : List ℕ} {u v : Writer} → s ≡ t → Wrote s u v → Wrote t u v
wrote_as {s} {t} {u} {v} e w = rw e at w

-- there is room for what comes first, and then for what comes behind
pub room-first : (s t : List ℕ) (u : Writer) → Room (s ++ t) u → Room s u
room-first s t u h = omega (arith, length-append s t)

pub room-then : (s t : List ℕ) {u v : Writer} → Wrote s u v → Room (s ++ t) u → Room t v
room-then s t {u} {v} w h = omega (arith, w.place, wrote-length w, length-append s t)

pub room_as : {s t : List ℕ} (u : Writer) → s ≡ t → Room s u → Room t u
room_as {s} {t} u e h = rw e at h

-- the words of the rules that f gives for the numbers below n
abbrev pub below : (ℕ → List Rule) → ℕ → List ℕ
below f n = stored_rules (gather f (numbers 0 n))

gather-more : (f : ℕ → List Rule) (i n : ℕ) → gather f (numbers i (suc n)) ≡ gather f (numbers i n) ++ f (i + n)
gather-more f i zero = append-nil (f i) ∙ ap f (omega arith)
gather-more f i (suc n) =
    let e : suc i + n ≡ i + suc n = omega arith in
    ap (f i ++◌) (gather-more f (suc i) n) ∙ sym (append_assoc (f i) (gather f (numbers (suc i) n)) (f (suc i + n))) ∙ ap (λ (k : ℕ). (f i ++ gather f (numbers (suc i) n)) ++ f k) e

pub below_more : (f : ℕ → List Rule) (n : ℕ) → below f (n + 1) ≡ below f n ++ stored_rules (f n)
below_more f n =
    let e : 0 + n ≡ n = omega arith in
    ap (below f) (add-one n) ∙ ap stored_rules (gather-more f 0 n) ∙ list-append (gather f (numbers 0 n)) (f (0 + n)) ∙ ap (λ (k : ℕ). below f n ++ stored_rules (f k)) e

below-le : (f : ℕ → List Rule) (m k : ℕ) → length (below f m) ≤ length (below f (m + k))
below-le f m zero = let e : m + zero ≡ m = omega arith in rw e (omega arith)
below-le f m (suc k) =
    let e : m + suc k ≡ m + k + 1 = omega arith in
    rw e (omega (arith, below-le f m k, ap length (below_more f (m + k)), length-append (below f (m + k)) (stored_rules (f (m + k)))))

-- a turn of a loop that writes the rules of i: there is room, and then the rules of one number more are written
pub turn-room : (f : ℕ → List Rule) (n i : ℕ) {u v : Writer} → i < n → Room (below f n) u → Wrote (below f i) u v → Room (stored_rules (f i)) v
turn-room f n i h room w =
    let e : i + 1 + (n - (i + 1)) ≡ n = omega arith in
    omega (arith, w.place, wrote-length w, rw e at (below-le f (i + 1) (n - (i + 1))), ap length (below_more f i), length-append (below f i) (stored_rules (f i)))

pub turn_more : (f : ℕ → List Rule) (i : ℕ) {u v w : Writer} → Wrote (below f i) u v → Wrote (stored_rules (f i)) v w → Wrote (below f (i + 1)) u w
turn_more f i a b = wrote_as (sym (below_more f i)) (wrote_then a b)

-- how many words two lists of rules are; so there is room for the second behind the first, as a slice keeps its length
pub length_both : (a b : List Rule) → length (stored_rules (a ++ b)) ≡ length (stored_rules a) + length (stored_rules b)
length_both a b = ap length (list-append a b) ∙ length-append (stored_rules a) (stored_rules b)

pub ruleset rooms = (length_both, length-put)

-- where nothing is written
pub ruleset nothing_written = (put-none)
