-- The laws of `specs/Right.antt`. No contract cites this file.
use mathlib.Core.Path.{◌≡◌, refl, sym, ap, subst, ◌∙◌}
use mathlib.Core.Bool.{Bool, true, false}
use mathlib.Core.List.{List, [], ◌∷◌, ◌++◌, append_assoc, append-nil}
use Prim.Native.Nat.{ℕ, ◌+◌, ◌-◌, ◌≤◌, ◌<◌}
use native.Mathlib.Nat.{add-zero}
use native.Mathlib.Numerals.{add-one}
use native.Mathlib.Omega.{arith}
use lib.Seq.{take-suc, take_all}
use lib.ListN.{length, take, drop, get_or, take-append-drop, length-append, length-take, length-drop}
use lib.Dec.{leb}
use borrow.Author.Tests.{le-leb, lt-leb, leb-true}
use Rattle.std.specs.Prelude.{Some, None}
use Rattle.theory.specs.Syntax.{pick}
use Rattle.theory.specs.Words.{is_var}
use Rattle.theory.specs.Buffers.{over, put, part}
use Rattle.words.proofs.Writes.{over-append, over-put}
use Rattle.rules.specs.Matching.{taken_by}
use Rattle.rules.specs.declared.index.Span.{Span}
use Rattle.splice.specs.declared.Shown.{Shown}
use Rattle.splice.specs.declared.Shown.TheVariants.{Word, Part}
use Rattle.splice.specs.Right.{Parts, shown_by, words_of, len_of, word_for, word_len, new, new_len, placed, written_of}

-- what a word stands for is a part of the subject
bound_of : (b : Bool) (x s : Span) (w n : ℕ) → pick b (Part x) (Word w) ≡ Part s → x.from ≤ x.to → x.to ≤ n → (s.from ≤ s.to) × (s.to ≤ n)
bound_of true x s w n q l k = let p : x ≡ s = cc in subst (λ (y : Span). (y.from ≤ y.to) × (y.to ≤ n)) p (l, k)
bound_of false x s w n q l k = cc

pub bound-within : {bound : List Span} {n : ℕ} (w : ℕ) (s : Span) → Parts bound n → shown_by bound w ≡ Part s → (s.from ≤ s.to) × (s.to ≤ n)
bound-within {bound} {n} w s h q = bound_of (is_var w) (taken_by bound (w - 64)) s w n q (h.ordered (w - 64)) (h.within.inside (w - 64))

pub length_part : (a e : ℕ) (l : List ℕ) → e ≤ length l → length (part a e l) ≡ e - a
length_part a e l h = simp (length-take, length-drop) (omega arith)

length-words : (subject : List ℕ) (s : Shown) → ((p : Span) → s ≡ Part p → (p.from ≤ p.to) × (p.to ≤ length subject)) → length (words_of subject s) ≡ len_of s
length-words subject (Word w) h = refl
length-words subject (Part p) h = length_part p.from p.to subject (h p refl).1

pub length-word : (subject : List ℕ) (bound : List Span) (w : ℕ) → Parts bound (length subject) → length (word_for subject bound w) ≡ word_len bound w
unfolding word_for word_len
length-word subject bound w h = length-words subject (shown_by bound w) (λ p q. bound-within w p h q)

pub length-new : (subject : List ℕ) (bound : List Span) (right : List ℕ) → Parts bound (length subject) → length (new subject bound right) ≡ new_len bound right
length-new subject bound [] h = refl
length-new subject bound (w ∷ right) h =
    length-append (word_for subject bound w) (new subject bound right)
    ∙ cc (length-word subject bound w h, length-new subject bound right h)

-- the right side's words one after the other
pub new-append : (subject : List ℕ) (bound : List Span) (r r' : List ℕ) → new subject bound (r ++ r') ≡ new subject bound r ++ new subject bound r'
new-append subject bound [] r' = refl
new-append subject bound (w ∷ r) r' = rw append_assoc (ap (λ (l : List ℕ). word_for subject bound w ++ l) (new-append subject bound r r'))

new_len-append : (bound : List Span) (r r' : List ℕ) → new_len bound (r ++ r') ≡ new_len bound r + new_len bound r'
new_len-append bound [] r' = omega arith
new_len-append bound (w ∷ r) r' = omega (arith, new_len-append bound r r')

-- a turn of a loop over the right side
pub new_len-more : (bound : List Span) (right : List ℕ) (i : ℕ) → i < length right → new_len bound (take (i + 1) right) ≡ new_len bound (take i right) + word_len bound (get_or right i 0)
new_len-more bound right i h =
    rw (add-one, take-suc right i 0)
    (new_len-append bound (take i right) (get_or right i 0 ∷ []) ∙ ap (λ (k : ℕ). new_len bound (take i right) + k) (add-zero (word_len bound (get_or right i 0))))

pub new-more : (subject : List ℕ) (bound : List Span) (right : List ℕ) (i : ℕ) → i < length right
    → new subject bound (take (i + 1) right) ≡ new subject bound (take i right) ++ word_for subject bound (get_or right i 0)
new-more subject bound right i h =
    rw (add-one, take-suc right i 0)
    (new-append subject bound (take i right) (get_or right i 0 ∷ []) ∙ ap (λ (l : List ℕ). new subject bound (take i right) ++ l) (append-nil (word_for subject bound (get_or right i 0))))

-- the first words of the right side come to no more than all of it
new_len-le : (bound : List Span) (right : List ℕ) (i : ℕ) → new_len bound (take i right) ≤ new_len bound right
new_len-le bound right i =
    omega (arith, new_len-append bound (take i right) (drop i right), ap (new_len bound) (take-append-drop i right))

pub new_len-next : (bound : List Span) (right : List ℕ) (i : ℕ) → i < length right → new_len bound (take i right) + word_len bound (get_or right i 0) ≤ new_len bound right
new_len-next bound right i h = omega (arith, new_len-more bound right i h, new_len-le bound right (i + 1))

-- a word comes to at most one more than the subject has
len-of : (s : Shown) (n : ℕ) → ((p : Span) → s ≡ Part p → (p.from ≤ p.to) × (p.to ≤ n)) → len_of s ≤ n + 1
len-of (Word w) n h = omega arith
len-of (Part p) n h = omega (arith, h p refl)

pub word_len-le : (bound : List Span) (w n : ℕ) → Parts bound n → word_len bound w ≤ n + 1
unfolding word_len
word_len-le bound w n h = len-of (shown_by bound w) n (λ p q. bound-within w p h q)

pub write-more : (subject : List ℕ) (bound : List Span) (right d x : List ℕ) (at i : ℕ) → Parts bound (length subject) → i < length right
    → at ≡ new_len bound (take i right) → x ≡ over (new subject bound (take i right)) d
    → put at (word_for subject bound (get_or right i 0)) x ≡ over (new subject bound (take (i + 1) right)) d
write-more subject bound right d x at i h k e q =
    let done = new subject bound (take i right) in
    let word = word_for subject bound (get_or right i 0) in
    ap (λ (n : ℕ). put n word x) (e ∙ sym (length-new subject bound (take i right) h))
    ∙ ap (put (length done) word) q
    ∙ over-append done word d
    ∙ ap (λ (s : List ℕ). over s d) (sym (new-more subject bound right i k))

-- a write that fits, and one that does not
pub written-fits : (m n : ℕ) (s d : List ℕ) → length s ≡ n → n ≤ m → (written_of m s ≡ Some n) × (placed m s d ≡ over s d)
written-fits m n s d e h =
    let t : leb (length s) m ≡ true = le-leb (length s) m (omega arith) in
    (ap (λ (b : Bool). pick b (Some (length s)) None) t ∙ ap Some e, ap (λ (b : Bool). pick b (over s d) d) t)

pub written-big : (m n : ℕ) (s d : List ℕ) → length s ≡ n → m < n → (written_of m s ≡ None) × (placed m s d ≡ d)
written-big m n s d e h =
    let t : leb (length s) m ≡ false = lt-leb (length s) m (omega arith) in
    (ap (λ (b : Bool). pick b (Some (length s)) None) t, ap (λ (b : Bool). pick b (over s d) d) t)

-- what an answer says
count_of : (b : Bool) (l m n : ℕ) → leb l m ≡ b → pick b (Some l) None ≡ Some n → (l ≡ n) × (n ≤ m)
count_of true l m n t q = let e : l ≡ n = cc in omega (arith, leb-true l m t)
count_of false l m n t q = cc

pub count-says : (m n : ℕ) (s : List ℕ) → written_of m s ≡ Some n → (length s ≡ n) × (n ≤ m)
count-says m n s q = count_of (leb (length s) m) (length s) m n refl q

-- the three parts of a step, written in the code's order
pub three-parts : (h n t d : List ℕ) → put (length h + length n) t (over h (put (length h) n d)) ≡ over (h ++ (n ++ t)) d
three-parts h n t d =
    ap (put (length h + length n) t) (over-put h n d ∙ over-append h n d)
    ∙ ap (λ (k : ℕ). put k t (over (h ++ n) d)) (sym (length-append h n))
    ∙ over-append (h ++ n) t d
    ∙ ap (λ (s : List ℕ). over s d) (append_assoc h n t)

-- the two cases of a word
module _ (bound : List Span) (w : ℕ) where
  abbrev shown : Bool → Shown
  shown b = pick b (Part (taken_by bound (w - 64))) (Word w)

  pub shows-itself : is_var w ≡ false → Word w ≡ shown_by bound w
  shows-itself v = sym (ap shown v)

  pub shows-part : is_var w ≡ true → Part (taken_by bound (w - 64)) ≡ shown_by bound w
  shows-part v = sym (ap shown v)

-- the steps of the count of the right side's words, and of their writing
pub ruleset count_steps = (new_len-more, word_len-le)

pub ruleset write_steps = (length-new, new_len-more, new_len-next, write-more, written-fits, written-big, take_all)
