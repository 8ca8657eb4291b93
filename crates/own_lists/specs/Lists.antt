-- What is answered of a program's own list, by what the program is read as.
use Rattle.std.specs.Prelude.{ℕ, Option, Some, None, Result as Outcome, Ok, Err, List, leb, length}
use Rattle.theory.specs.Syntax.{pick}
use Rattle.theory.specs.Words.{stored_rules}
use Rattle.theory.specs.Translation.{own_list}
use Rattle.theory.specs.Buffers.{over}
use Rattle.theory.specs.Bytes.{Result, refused, good, Book, read_program, program_of}
use Rattle.own_lists.specs.declared.lists.NoList.{NoList}
use Rattle.own_lists.specs.declared.lists.NoList.TheVariants.{Refused, Short}

-- how many words the own list is; none where the program is refused
abbrev pub length_by : Result Book → Option ℕ
length_by (refused r) = None
length_by (good s) = Some (length (stored_rules (own_list (program_of s))))

unfoldable pub list_length : List ℕ → Option ℕ
list_length program = length_by (read_program program)

-- so many words are written where they fit into the slice; else it is too short
abbrev pub fitted : List ℕ → List ℕ → Outcome ℕ NoList
fitted ws d = pick (leb (length ws) (length d)) (Ok (length ws)) (Err Short)

-- the answer on a program and a slice: refused, or as its own list fits
abbrev pub answer_by : Result Book → List ℕ → Outcome ℕ NoList
answer_by (refused r) d = Err Refused
answer_by (good s) d = fitted (stored_rules (own_list (program_of s))) d

unfoldable pub list_answer : List ℕ → List ℕ → Outcome ℕ NoList
list_answer program d = answer_by (read_program program) d

-- what the slice then holds: the words from the start and the rest as it was, where they fit; else all as it was
abbrev pub held_by : Result Book → List ℕ → List ℕ
held_by (refused r) d = d
held_by (good s) d = pick (leb (length (stored_rules (own_list (program_of s)))) (length d)) (over (stored_rules (own_list (program_of s))) d) d

unfoldable pub list_written : List ℕ → List ℕ → List ℕ
list_written program d = held_by (read_program program) d
