-- The laws of records by place.
use Prim.Native.Nat.{ℕ, zero, suc, ◌+◌, ◌-◌, ◌≤◌, ◌<◌}
use mathlib.Core.Path.{◌≡◌, refl, sym, ap, ◌∙◌, subst}
use mathlib.Core.Bool.{Bool, true, false, ◌||◌}
use mathlib.Core.List.{List, [], ◌∷◌}
use native.Mathlib.Omega.{arith}
use lib.Dec.{eqb}
use lib.ListN.{length, get_or, take, drop, length-drop, drop_of_length-le}
use borrow.Author.Tests.{ne_eqb}
use Rattle.theory.proofs.Lists.{drop-next}
use Rattle.theory.specs.Syntax.{pick}
use Rattle.theory.specs.Bytes.{body_length, NextRecord, none_left, cut_short, next_is, with_body, next_record}
use Rattle.std.specs.Prelude.{Option, Some, None, Result, Ok, Err, MatchResult}
use Rattle.record.specs.declared.Kind.{Kind}
use Rattle.record.specs.declared.Kind.TheVariants.{Exception, Function, Rule, Variable, Raise, Handle, Builtin, Call}
use Rattle.record.specs.declared.UnknownKind.{UnknownKind}
use Rattle.record.specs.declared.Record.{Record}
use Rattle.record.specs.Kind.{byte_of, ReadsAs}
use Rattle.record.specs.Record.{record_of, record_at}

-- what is no kind has no body
no-body : (n : ℕ) → ((k : Kind) → byte_of k ≡ n → ⊥) → body_length n ≡ 0
no-body n none =
    let other : (k : Kind) → eqb n (byte_of k) ≡ false = λ k. ne_eqb n (byte_of k) (λ e. none k (sym e)) in
    simp (other Exception, other Function, other Rule, other Variable, other Raise, other Handle, other Builtin, other Call)

-- how many bytes of body: those of the kind that is read, and none where none is
pub body-read : (n m : ℕ) (r : Result Kind UnknownKind) → MatchResult r (λ k. m ≡ body_length (byte_of k)) (λ e. m ≡ 0) → ReadsAs n r → m ≡ body_length n
body-read n m (Ok k) h e = h ∙ ap body_length e
body-read n m (Err u) h none = h ∙ sym (no-body n none)

pick-most : (b : Bool) (x y : ℕ) → x ≤ 2 → y ≤ 2 → pick b x y ≤ 2
pick-most true x y h k = h
pick-most false x y h k = k

pub nothing_left : (ws : List ℕ) (p : ℕ) → length ws ≤ p → record_at ws p ≡ None
unfolding record_at
nothing_left ws p h = rw (drop_of_length-le ws h)

-- a kind with a body of no byte, one, two; and too few bytes for it
bodied-short : (k n : ℕ) (bs : List ℕ) → length bs < n → n ≤ 2 → with_body k n bs ≡ cut_short
bodied-short k zero bs h m = absurd (omega arith)
bodied-short k (suc zero) [] h m = refl
bodied-short k (suc zero) (b ∷ bs) h m = absurd (omega arith)
bodied-short k (suc (suc n)) [] h m = refl
bodied-short k (suc (suc n)) (b ∷ []) h m = refl
bodied-short k (suc (suc n)) (b ∷ c ∷ bs) h m = absurd (omega arith)

bodied-whole : (k n : ℕ) (bs : List ℕ) → n ≤ length bs → n ≤ 2 → record_of (with_body k n bs) ≡ Some (record { kind = k; body = get_or (take n bs) 0 0; second = get_or (take n bs) 1 0; len = 1 + n })
bodied-whole k zero bs h m = refl
bodied-whole k (suc zero) [] h m = absurd (omega arith)
bodied-whole k (suc zero) (b ∷ bs) h m = refl
bodied-whole k (suc (suc n)) [] h m = absurd (omega arith)
bodied-whole k (suc (suc n)) (b ∷ []) h m = absurd (omega arith)
bodied-whole k (suc (suc zero)) (b ∷ c ∷ bs) h m = refl
bodied-whole k (suc (suc (suc n))) (b ∷ c ∷ bs) h m = absurd (omega arith)

-- a body has two bytes at most
pub body-most : (k : ℕ) → body_length k ≤ 2
body-most k =
    pick-most (eqb k 2) 2 _ (omega arith)
    (pick-most (eqb k 1 || eqb k 3 || eqb k 0x14 || eqb k 0x15 || eqb k 0x16 || eqb k 0x18 || eqb k 0x19) 1 0 (omega arith) (omega arith))

-- the record that begins with the byte k, of which n are its body's
module _ (ws : List ℕ) (p k n : ℕ) (first : k ≡ get_or ws p 0) (body : n ≡ body_length k) where
  next-at : p < length ws → next_record (drop p ws) ≡ with_body k n (drop (p + 1) ws)
  next-at h = rw (drop-next ws p h, body, first)

  pub ends_within : p < length ws → length ws ≤ p + n → record_at ws p ≡ None
  unfolding record_at
  ends_within h l = ap record_of (next-at h ∙ bodied-short _ n (drop (p + 1) ws) (rw length-drop (omega arith)) (rw body (body-most k)))

  pub whole : p + n < length ws → (bs : List ℕ) → bs ≡ take n (drop (p + 1) ws) → record_at ws p ≡ Some (record { kind = k; body = get_or bs 0 0; second = get_or bs 1 0; len = 1 + n })
  unfolding record_at
  whole h bs e = ap record_of (next-at (omega arith)) ∙ bodied-whole _ n (drop (p + 1) ws) (rw length-drop (omega arith)) (rw body (body-most k)) ∙ rw e

-- behind a record stand the bytes past its length, which is 1 at least
abbrev pub Behind : List ℕ → NextRecord → Type 0
Behind l none_left = Unit {0}
Behind l cut_short = Unit {0}
Behind l (next_is k b c n bs) = (bs ≡ drop n l) × (0 < n) × (n ≤ length l)

behind-body : (k n : ℕ) (bs : List ℕ) → Behind (k ∷ bs) (with_body k n bs)
behind-body k zero bs = (refl, omega arith, omega arith)
behind-body k (suc zero) [] = tt
behind-body k (suc zero) (b ∷ bs) = (refl, omega arith, omega arith)
behind-body k (suc (suc n)) [] = tt
behind-body k (suc (suc n)) (b ∷ []) = tt
behind-body k (suc (suc n)) (b ∷ c ∷ bs) = (refl, omega arith, omega arith)

pub behind : (l : List ℕ) → Behind l (next_record l)
behind [] = tt
behind (k ∷ bs) = behind-body k (body_length k) bs

-- a record has a byte at least, and none past the end
Inside : ℕ → Option Record → Type 0
Inside n None = Unit {0}
Inside n (Some r) = (0 < r.len) × (r.len ≤ n)

inside-next : (l : List ℕ) (o : NextRecord) → Behind l o → Inside (length l) (record_of o)
unfolding Inside
inside-next l none_left h = tt
inside-next l cut_short h = tt
inside-next l (next_is k b c n bs) h = (h.1, h.2)

pub record-fits : (ws : List ℕ) (p : ℕ) (r : Record) → record_at ws p ≡ Some r → (0 < r.len) × (r.len ≤ length ws - p)
unfolding record_at Inside
record-fits ws p r e = rw length-drop at (subst (Inside (length (drop p ws))) e (inside-next (drop p ws) (next_record (drop p ws)) (behind (drop p ws))))
