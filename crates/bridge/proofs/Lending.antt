-- What an engine is lent of an accepted program and question: the fronts of what was written.
use Prim.Native.Nat.{ℕ, ◌≤◌, ◌<◌}
use mathlib.Core.Path.{◌≡◌, refl, sym, ap, ap₂, ◌∙◌}
use mathlib.Core.Bool.{Bool, true, false}
use mathlib.Core.List.{List, []}
use native.Mathlib.Omega.{arith}
use lib.Dec.{leb}
use lib.ListN.{length, take, get_or, replicate, length-replicate}
use borrow.Author.Tests.{leb-true, leb-false, le-leb, lt-leb}
use Rattle.theory.specs.Syntax.{pick}
use Rattle.theory.specs.Builtins.{fun_of}
use Rattle.theory.specs.Words.{stored_rules}
use Rattle.theory.specs.Translation.{tree, standing}
use Rattle.theory.specs.Buffers.{over}
use Rattle.theory.specs.Bytes.{program_of}
use Rattle.theory.proofs.Bounds.{own-list-fits, question-fits}
use Rattle.theory.proofs.Readability.{length-words}
use Rattle.words.proofs.Writes.{length_over, take-over}
use Rattle.checker.specs.declared.Checked.{Checked}
use Rattle.checker.specs.Answer.{table}
use Rattle.rules.specs.declared.lists.Lists.{Lists}
use Rattle.std.specs.Prelude.{Option, Some, None, IfSome}
use Rattle.std.specs.Option.{unwrap_or}
use Rattle.bridge.specs.declared.report.Report.{Report}
use Rattle.translator.specs.Answered.{answered, filled}
use Rattle.bridge.specs.Accepted.{Checks, Accepts, own_words, question_words, standing_words, Lends}
use Rattle.checker.proofs.Table.{table_is}

-- how many words they are: the evaluator's own list stands in an array of 15,504
pub own-short-enough : (p : List ℕ) (c : Checked) (a : Checks p c) → length (own_words a.book) ≤ 15504
unfolding own_words
own-short-enough p c a = own-list-fits p a.book a.program_read

question-short-enough : (p q : List ℕ) (c : Checked) (a : Accepts p q c) → length (question_words a.term) ≤ 512
unfolding question_words
question-short-enough p q c a =
    let k = question-fits a.checks.book.decls q a.term a.question_read in
    omega (arith, length-words (tree a.term), k)

-- what the answer says, and what the slice holds
module _ (ws d : List ℕ) (o : Option ℕ) (e : o ≡ answered ws d) where
  counted : (n : ℕ) → o ≡ Some n → (n ≡ length ws) × (length ws ≤ length d)
  counted n k = by-fit (leb (length ws) (length d)) refl (sym k ∙ e)
    where
      by-fit : (b : Bool) → leb (length ws) (length d) ≡ b → Some n ≡ pick b (Some (length ws)) None → (n ≡ length ws) × (length ws ≤ length d)
      by-fit true h w = ((cc), leb-true (length ws) (length d) h)
      by-fit false h w = let z : ◌≡◌ {A = ℕ} 0 1 = cc in absurd (omega arith)

  not-counted : o ≡ None → length d < length ws
  not-counted k = by-fit (leb (length ws) (length d)) refl (sym k ∙ e)
    where
      by-fit : (b : Bool) → leb (length ws) (length d) ≡ b → None ≡ pick b (Some (length ws)) None → length d < length ws
      by-fit true h w = let z : ◌≡◌ {A = ℕ} 0 1 = cc in absurd (omega arith)
      by-fit false h w = leb-false (length ws) (length d) h

filled-over : (ws d d' : List ℕ) → d' ≡ filled ws d → length ws ≤ length d → d' ≡ over ws d
filled-over ws d d' e h = e ∙ ap (λ (b : Bool). pick b (over ws d) d) (le-leb (length ws) (length d) h)

filled_none : (ws d d' : List ℕ) → d' ≡ filled ws d → length d < length ws → d' ≡ d
filled_none ws d d' e h = e ∙ ap (λ (b : Bool). pick b (over ws d) d) (lt-leb (length ws) (length d) h)

-- WHAT IS LENT OF THEM: the first n words of d' are ws
pub record Fronts (ws d' : List ℕ) (n : ℕ) : Type 0 where
  pub inside : n ≤ length d'
  pub front : take n d' ≡ ws

fronts : (ws d d' : List ℕ) (n : ℕ) → n ≡ length ws → d' ≡ over ws d → length ws ≤ length d → Fronts ws d' n
fronts ws d d' n en e h =
    record { inside = omega (arith, en, ap length e, length_over ws d, h); front = ap₂ take en e ∙ take-over ws d h }

pub question-front : (p q : List ℕ) (c : Checked) (a : Accepts p q c) (d' : List ℕ) (n : ℕ) → n ≡ length (question_words a.term)
    → d' ≡ over (question_words a.term) (replicate 512 0) → Fronts (question_words a.term) d' n
question-front p q c a d' n en e =
    fronts (question_words a.term) (replicate 512 0) d' n en e (omega (arith, question-short-enough p q c a, length-replicate {A = ℕ} 512 0))

pub own-front : (ws d d' : List ℕ) (o : Option ℕ) (n : ℕ) → o ≡ answered ws d → d' ≡ filled ws d → o ≡ Some n → Fronts ws d' n × (length ws ≤ length d) × (d' ≡ over ws d)
own-front ws d d' o n eo e k =
    let m = counted ws d o eo n k in
    let f = filled-over ws d d' e m.1 in
    (fronts ws d d' n m.0 f m.1, m.1, f)

pub own-unwritten : (ws d d' : List ℕ) (o : Option ℕ) → o ≡ answered ws d → d' ≡ filled ws d → o ≡ None → (length d < length ws) × (d' ≡ d)
own-unwritten ws d d' o eo e k = let m = not-counted ws d o eo k in (m, filled_none ws d d' e m)

-- an answer that is there is what is unwrapped
pub unwrapped : (o : Option Report) (d r x : Report) → (o ≡ None → ⊥) → IfSome o (λ y. y ≡ x) → r ≡ unwrap_or o d → r ≡ x
unwrapped None d r x n h e = absurd (n refl)
unwrapped (Some y) d r x n h e = e ∙ h

-- WHAT AN ENGINE IS LENT
-- the checker's table of arities
pub arities-lent : (p : List ℕ) (c : Checked) (a : Checks p c) → c.arities ≡ table a.book.decls.arities
arities-lent p c a = ap (λ (x : Checked). x.arities) a.answer

pub standing-is : (st : List ℕ) → st ≡ stored_rules (standing (fun_of [])) → st ≡ standing_words
unfolding standing_words
standing-is st e = e

-- the arities that are lent are the program's
pub arities-are : {p q : List ℕ} {c : Checked} (a : Accepts p q c) (x : Lists) → Lends a.checks.book x → (k : ℕ) → get_or x.arities.now k 0 ≡ ((program_of a.checks.book).fun k).arity
arities-are {p} a x h k = ap (λ (l : List ℕ). get_or l k 0) h.arity_table ∙ table_is p a.checks.book a.checks.program_read k
