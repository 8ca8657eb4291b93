-- What the checker's and the translator's answers say of a program's own list.
use mathlib.Core.Path.{◌≡◌, refl, sym, ap, ◌∙◌}
use mathlib.Core.Bool.{Bool, true, false}
use mathlib.Core.List.{List}
use Prim.Native.Nat.{ℕ}
use Rattle.std.specs.Prelude.{Option, Some, None, Result as Outcome, Ok, Err, ok_or}
use Rattle.std.specs.Result.{result_ok}
use lib.Dec.{leb}
use lib.ListN.{length}
use Rattle.theory.specs.Syntax.{pick}
use Rattle.theory.specs.Words.{stored_rules}
use Rattle.theory.specs.Translation.{own_list}
use Rattle.theory.specs.Bytes.{Result, Book, read_program, program_of}
use Rattle.checker.specs.declared.Checked.{Checked}
use Rattle.checker.specs.declared.refusal.Refusal.{Refusal}
use Rattle.checker.specs.Answer.{checked_of}
use Rattle.checker.proofs.Callers.{program_read, program_refused}
use Rattle.translator.specs.Accepted.{OfOwnList}
use Rattle.translator.specs.Answered.{answered, filled}
use Rattle.own_lists.specs.declared.lists.NoList.{NoList}
use Rattle.own_lists.specs.declared.lists.NoList.TheVariants.{Refused, Short}
use Rattle.own_lists.specs.Lists.{length_by, list_length, fitted, answer_by, list_answer, held_by, list_written}

-- the translator's answer, passed on
abbrev told : Option ℕ → Outcome ℕ NoList
told o = ok_or o Short

told-fitted : (ws d : List ℕ) → told (answered ws d) ≡ fitted ws d
told-fitted ws d = by-fit (leb (length ws) (length d))
  where
    by-fit : (b : Bool) → told (pick b (Some (length ws)) None) ≡ pick b (Ok (length ws)) (Err Short)
    by-fit true = refl
    by-fit false = refl

-- what is read of an answer as an option
pub ok-of : {A E : Type 0} {x : A} (o : Outcome A E) → Some x ≡ result_ok o → Ok x ≡ o
ok-of (Ok y) h = cc
ok-of (Err e) h = cc

-- a refused program
module _ (program : List ℕ) (x : Refusal) (e : Err x ≡ checked_of (read_program program)) where
  pub length_refused : None ≡ list_length program
  unfolding list_length
  length_refused = sym (ap length_by (program_refused program x e).1.0)

  pub answer_refused : (d : List ℕ) → Err Refused ≡ list_answer program d
  unfolding list_answer
  answer_refused d = sym (ap (λ (o : Result Book). answer_by o d) (program_refused program x e).1.0)

  pub written_refused : (d : List ℕ) → d ≡ list_written program d
  unfolding list_written
  written_refused d = sym (ap (λ (o : Result Book). held_by o d) (program_refused program x e).1.0)

-- an accepted one
module _ (program : List ℕ) (c : Checked) (e : Ok c ≡ checked_of (read_program program)) where
  pub length-read : (r : ℕ) → OfOwnList program (λ ws. r ≡ length ws) → Some r ≡ list_length program
  unfolding list_length
  length-read r h = let q = program_read program c e in ap Some (h q.0 q.1.0) ∙ sym (ap length_by q.1.0)

  pub answer_read : (d : List ℕ) (o : Option ℕ) → OfOwnList program (λ ws. o ≡ answered ws d) → told o ≡ list_answer program d
  unfolding list_answer
  answer_read d o h =
      let q = program_read program c e in
      ap told (h q.0 q.1.0) ∙ told-fitted (stored_rules (own_list (program_of q.0))) d ∙ sym (ap (λ (x : Result Book). answer_by x d) q.1.0)

  pub written_read : (d d' : List ℕ) → OfOwnList program (λ ws. d' ≡ filled ws d) → d' ≡ list_written program d
  unfolding list_written
  written_read d d' h = let q = program_read program c e in h q.0 q.1.0 ∙ sym (ap (λ (x : Result Book). held_by x d) q.1.0)
