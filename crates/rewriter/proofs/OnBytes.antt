-- THE REWRITER FROM THE BYTES: with the lists that a read program comes to, its answer is the theory's, and the first buffer holds the
-- theory's last term. The theory gives a value to a right side's variable that the left has not, and the code has no case for it: an accepted
-- program's rules are proper (`accepted-rules-proper`), so each variable has its part (`Filled-is`). The early ends of `apply_rule` (a rule that
-- is not whole, a term that ends before its left side does) would end a run where the theory's goes on; no accepted program reaches them.
use mathlib.Core.Path.{◌≡◌, sym, ap, ◌∙◌}
use mathlib.Core.List.{List, []}
use Prim.Native.Nat.{ℕ}
use lib.ListN.{get_or}
use Rattle.rules.proofs.Standing.{standing-same}
use Rattle.theory.specs.Syntax.{Term}
use Rattle.theory.specs.Builtins.{fun_of}
use Rattle.theory.specs.Buffers.{over, padded}
use Rattle.theory.specs.Words.{words, stored_rules}
use Rattle.theory.specs.Translation.{tree, standing, own_list}
use Rattle.theory.specs.Turns.{rewriter}
use Rattle.theory.specs.Answers.{last_words}
use Rattle.theory.specs.Bytes.{good, Book, read_program, read_question, program_of, funs_of}
use Rattle.theory.proofs.Accepted.{program-on-bytes, question-on-bytes}
use Rattle.theory.proofs.AcceptedProper.{accepted-rules-proper}
use Rattle.rules.specs.Index.{index_of}
use Rattle.rules.specs.Program.{Sound, Lent}
use Rattle.rules.specs.declared.index.Span.{Span}
use Rattle.rewriter.specs.Read.{answer_w, run_on}
use Rattle.rewriter.specs.Meaning.{answer_of}
use Rattle.rewriter.specs.declared.Answer.{Answer}
use Rattle.rewriter.proofs.Programs.{run-is-theirs}

module _ (p q : List ℕ) (s : Book) (t : Term) (ep : read_program p ≡ good s) (eq : read_question s.decls q ≡ good t) where
  sound : Sound (program_of s)
  sound = let h = program-on-bytes p s ep in record { few = h.0; formed = h.1; narrow = h.2 }

  module _ (ks st own : List ℕ) (si oi : List Span) (ws : List ℕ) (arities : (k : ℕ) → get_or ks k 0 ≡ ((program_of s).fun k).arity) (standing-is : st ≡ stored_rules (standing (fun_of []))) (own_is : own ≡ stored_rules (own_list (program_of s)))
      (standing-index-is : si ≡ index_of st) (own-index-is : oi ≡ index_of own) (question-is : ws ≡ words (tree t)) where
    lent : Lent (program_of s) ks st own
    lent = record { arities = arities; standing_list = standing-is ∙ sym (standing-same (funs_of 0 s.decls.arities s.rules_at)); own_is = own_is }

    pub rewriter-on-bytes : (room allowance : ℕ) (first first' : List ℕ) (r : Answer)
        → r ≡ answer_w (run_on ks st own si oi ws room allowance)
        → first' ≡ over (padded room (run_on ks st own si oi ws room allowance).term) first
        → (r ≡ answer_of (rewriter (program_of s) room allowance t)) × (first' ≡ over (padded room (last_words (program_of s) room allowance t)) first)
    rewriter-on-bytes room allowance first first' r er ef =
        let h = question-on-bytes p q s t ep eq in
        let theirs = run-is-theirs ks st own si oi (program_of s) sound (accepted-rules-proper p s ep) lent standing-index-is own-index-is t h.0 h.1 ws question-is room allowance in
        (er ∙ theirs.0, ef ∙ ap (λ (l : List ℕ). over (padded room l) first) theirs.1)
