-- Why a program or a question is refused, and where. The documents and the theory give numbers; the code has a name for each.
use Rattle.std.specs.Prelude.{ℕ, eqb, Result, Err}
use Rattle.theory.specs.Syntax.{pick}
use Rattle.theory.specs.Bytes
use Rattle.checker.specs.declared.refusal.Reason.{Reason}
use Rattle.checker.specs.declared.refusal.Reason.TheVariants.{ProgramTooLong, BytesEnd, KindNotAllowed, PastCeiling, WrongNumber, NotOnLeft, VariableTwice, VariableUnknown, TooManyWords, FunctionWithoutRule, BytesLeftOver, RulesOverlap}
use Rattle.checker.specs.declared.refusal.Refusal.{Refusal}

-- the number of a reason
abbrev pub number_of : Reason → ℕ
number_of ProgramTooLong = 1
number_of BytesEnd = 2
number_of KindNotAllowed = 3
number_of WrongNumber = 4
number_of NotOnLeft = 5
number_of VariableTwice = 6
number_of VariableUnknown = 7
number_of TooManyWords = 8
number_of PastCeiling = 9
number_of RulesOverlap = 10
number_of BytesLeftOver = 11
number_of FunctionWithoutRule = 17

-- the reason of a number; a number that is none's stands for the last
abbrev pub reason_of : ℕ → Reason
reason_of n =
    pick (eqb n 1) ProgramTooLong (pick (eqb n 2) BytesEnd (pick (eqb n 3) KindNotAllowed (pick (eqb n 4) WrongNumber (pick (eqb n 5) NotOnLeft (pick (eqb n 6) VariableTwice
    (pick (eqb n 7) VariableUnknown (pick (eqb n 8) TooManyWords (pick (eqb n 9) PastCeiling (pick (eqb n 10) RulesOverlap (pick (eqb n 11) BytesLeftOver FunctionWithoutRule))))))))))

-- refused for a reason at a place
abbrev pub refuse : {A : Type 0} → Reason → ℕ → Result A Refusal
refuse r p = Err (record { reason = r; place = p })

-- a refusal of the theory, with the reason of its number
abbrev pub refusal_of : Bytes.Refusal → Refusal
refusal_of r = record { reason = reason_of r.number; place = r.place }
