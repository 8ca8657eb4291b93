-- What the two public calls answer for every program, question, allowances and lent slices: the refusals in their order, or one engine's
-- answer; and what each lent slice holds afterwards. Document 01, "Refusal numbers and their order" and "The rewriter's turn".
use Rattle.std.specs.Prelude.{ℕ, Bool, ◌&&◌, List, [], leb, length, replicate}
use Rattle.theory.specs.Syntax.{Term, Program, choose}
use Rattle.theory.specs.Endings.{Answer}
use Rattle.theory.specs.Cost.{evaluator}
use Rattle.theory.specs.Tree.{first_fit, size}
use Rattle.theory.specs.Buffers.{over, padded}
use Rattle.theory.specs.Words.{words, stored_rules}
use Rattle.theory.specs.Translation.{tree, own_list, rules}
use Rattle.theory.specs.Turns.{last_term, rewriter}
use Rattle.theory.specs.Bytes.{Result, refused, good, Book, read_program, program_of, read_question}

-- which string a refusal is about
pub data About : Type 0 where
  the_program the_question : About

-- "refused" with its number, what it is about and the byte place in that string; or an engine's answer
pub data Reply : Type 0 where
  refusal : ℕ → About → ℕ → Reply
  answer : Answer → Reply

-- REFUSALS 1 TO 11 AND 17: the program's, then the question's
pub data Verdict : Type 0 where
  refuses : ℕ → About → ℕ → Verdict
  accepts : Book → Term → Verdict

abbrev pub on_question : Book → Result Term → Verdict
on_question s (refused r) = refuses r.number the_question r.place
on_question s (good t) = accepts s t

abbrev pub on_program : Result Book → List ℕ → Verdict
on_program (refused r) q = refuses r.number the_program r.place
on_program (good s) q = on_question s (read_question s.decls q)

unfoldable pub judged : List ℕ → List ℕ → Verdict
judged p q = on_program (read_program p) q

-- REFUSAL 12: "Allowances: steps 0 to 1,000,000; levels 1 to 1,000; room 1 to 4,096 words"
abbrev pub steps_allowed : ℕ → Bool
steps_allowed n = leb n 1000000

abbrev pub levels_allowed : ℕ → Bool
levels_allowed n = leb 1 n && leb n 1000

abbrev pub room_allowed : ℕ → Bool
room_allowed n = leb 1 n && leb n 4096

-- THE EVALUATOR'S CALL
abbrev pub evaluated : ℕ → ℕ → Verdict → Reply
evaluated steps levels (refuses n a p) = refusal n a p
evaluated steps levels (accepts s t) =
    choose (steps_allowed steps && levels_allowed levels) (λ u. answer (evaluator (program_of s) levels steps t)) (λ u. refusal 12 the_program 0)

unfoldable pub evaluate : List ℕ → List ℕ → ℕ → ℕ → Reply
evaluate p q steps levels = evaluated steps levels (judged p q)

-- THE REWRITER'S CALL: its reply, and the three lent slices afterwards
pub record Rewritten : Type 0 where
  pub reply : Reply
  pub own : List ℕ
  pub first : List ℕ
  pub second : List ℕ

-- "no lent word changes"
abbrev pub unchanged : Reply → List ℕ → List ℕ → List ℕ → Rewritten
unchanged r own first second = record { reply = r; own = own; first = first; second = second }

-- the words of the last term that fitted the room; none where the question itself does not fit
abbrev pub last_words : Program → ℕ → ℕ → Term → List ℕ
last_words P room steps q = choose (leb (size (tree q)) room) (λ u. words (last_term (first_fit (rules P)) room steps (tree q))) (λ u. [])

-- REFUSAL 13: "a lent slice shorter than the own list or the room"
abbrev pub slices_long_enough : Program → ℕ → List ℕ → List ℕ → List ℕ → Bool
slices_long_enough P room own first second = leb (length (stored_rules (own_list P))) (length own) && (leb room (length first) && leb room (length second))

-- "At the end the first buffer holds the last term that fitted, then zeros up to the room (all zeros for count 0 too big); the second holds
-- zeros up to the room; the own list fills its slice from the start. Words past those are untouched."
abbrev pub performed : Program → Term → ℕ → ℕ → List ℕ → List ℕ → List ℕ → Rewritten
performed P t steps room own first second =
    record {
      reply = answer (rewriter P room steps t);
      own = over (stored_rules (own_list P)) own;
      first = over (padded room (last_words P room steps t)) first;
      second = over (replicate room 0) second;
    }

abbrev pub rewritten_by : ℕ → ℕ → List ℕ → List ℕ → List ℕ → Verdict → Rewritten
rewritten_by steps room own first second (refuses n a p) = unchanged (refusal n a p) own first second
rewritten_by steps room own first second (accepts s t) =
    choose (steps_allowed steps && room_allowed room)
    (λ u. choose (slices_long_enough (program_of s) room own first second)
    (λ u. performed (program_of s) t steps room own first second)
    (λ u. unchanged (refusal 13 the_program 0) own first second))
    (λ u. unchanged (refusal 12 the_program 0) own first second)

unfoldable pub rewrite : List ℕ → List ℕ → ℕ → ℕ → List ℕ → List ℕ → List ℕ → Rewritten
rewrite p q steps room own first second = rewritten_by steps room own first second (judged p q)
