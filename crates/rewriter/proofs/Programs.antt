-- THE REWRITER on the lists of a checked program whose rules are proper: its answer and its last term are the theory's.
use mathlib.Core.Path.{◌≡◌, sym, ap, subst, subst₂, ◌∙◌}
use mathlib.Core.Option.{none}
use mathlib.Core.List.{List, ◌++◌}
use Prim.Native.Nat.{ℕ}
use Rattle.theory.specs.Syntax.{Term, Program}
use Rattle.theory.specs.WellFormed.{WellFormed, Narrow}
use Rattle.theory.specs.Tree.{Tree, var, first_fit}
use Rattle.theory.specs.Words.{words, Shaped}
use Rattle.theory.specs.Translation.{tree, standing, own_list, rules}
use Rattle.theory.specs.Turns.{rewriter}
use Rattle.theory.specs.Answers.{last_words}
use Rattle.theory.specs.Proper.{ProperRules}
use Rattle.theory.proofs.Shape.{tree-shaped}
use Rattle.words.specs.Terms.{arity_of}
use Rattle.rules.specs.Index.{index_of}
use Rattle.std.specs.Prelude.{is_some}
use Rattle.rules.specs.Finding.{fitting_of, rule_of}
use Rattle.rules.specs.declared.index.Span.{Span}
use Rattle.rules.specs.Program.{Sound, Lent}
use Rattle.rules.proofs.Stored.{rooted-append}
use Rattle.rules.proofs.Found.{Picked}
use Rattle.rules.proofs.Program.{rooted-standing, rooted-own, arities-are, all-shaped, program-rule-found}
use Rattle.place.proofs.Sites.{var-none}
use Rattle.rewriter.specs.Read.{answer_w, run_on}
use Rattle.rewriter.specs.Meaning.{answer_of}
use Rattle.rewriter.proofs.Answers.{from_is}

module _ (ks st own : List ℕ) (si oi : List Span) (P : Program) (sound : Sound P) (proper : ProperRules (rules P)) (lent : Lent P ks st own) (es : si ≡ index_of st) (eo : oi ≡ index_of own) where
  -- the search finds the first of the program's rules that fits
  found : (t : Tree) → Shaped (arity_of ks) t → (rest : List ℕ) → let f = fitting_of ks st own si oi (words t ++ rest) in Picked ks t (rules P) (rule_of st own f) (is_some f)
  found t h rest =
      subst₂ (λ (i j : List Span). let f = fitting_of ks st own i j (words t ++ rest) in Picked ks t (rules P) (rule_of st own f) (is_some f)) (sym es) (sym eo)
      (program-rule-found ks st own P sound lent t (subst (λ (f : ℕ → ℕ). Shaped f t) (arities-are ks st own P sound lent) h) rest)

  vars : (x : ℕ) → first_fit (rules P) (var x) ≡ none
  vars = var-none (arity_of ks) (rules P) (all-shaped ks st own P sound lent) (rooted-append (standing P.fun) (own_list P) (rooted-standing P.fun) (rooted-own P))

  module _ (q : Term) (formed : WellFormed P q) (narrow : Narrow q) (ws : List ℕ) (stands : ws ≡ words (tree q)) (room n : ℕ) where
    shaped : Shaped (arity_of ks) (tree q)
    shaped = subst (λ (f : ℕ → ℕ). Shaped f (tree q)) (sym (arities-are ks st own P sound lent)) (tree-shaped P sound.few q formed narrow)

    pub run-is-theirs : (answer_w (run_on ks st own si oi ws room n) ≡ answer_of (rewriter P room n q)) × ((run_on ks st own si oi ws room n).term ≡ last_words P room n q)
    unfolding run_on rewriter
    run-is-theirs =
        let theirs = from_is ks st own si oi (rules P) proper (all-shaped ks st own P sound lent) found vars room n (tree q) shaped in
        (ap (λ (l : List ℕ). answer_w (run_on ks st own si oi l room n)) stands ∙ theirs.0, ap (λ (l : List ℕ). (run_on ks st own si oi l room n).term) stands ∙ theirs.1)
