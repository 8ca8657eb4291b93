-- What has been read of a program, and the records that declare exceptions and functions.
use Rattle.std.specs.Prelude.{ℕ, zero, suc, ◌+◌, ◌≤◌, Bool, true, false, ◌&&◌, List, [], ◌≡◌, length, take, replicate, drop, set, eqb, leb, ltb, Result, Ok, Err}
use Rattle.theory.specs.Syntax.{choose}
use Rattle.checker.specs.Answer.{table}
use Rattle.checker.specs.declared.declarations.Stage.{Stage}
use Rattle.checker.specs.declared.declarations.Stage.TheVariants.{Exceptions, Functions, Rules, End}
use Rattle.checker.specs.declared.declarations.Top.{Top}
use Rattle.checker.specs.declared.refusal.Reason.TheVariants.{KindNotAllowed, PastCeiling, WrongNumber}
use Rattle.checker.specs.declared.refusal.Refusal.{Refusal}
use Rattle.checker.specs.Refusal.{refuse}

-- whether exceptions are still declared; whether functions are; whether the end is read
abbrev pub takes_exceptions : Stage → Bool
takes_exceptions Exceptions = true
takes_exceptions Functions = false
takes_exceptions Rules = false
takes_exceptions End = false

abbrev pub takes_functions : Stage → Bool
takes_functions Exceptions = true
takes_functions Functions = true
takes_functions Rules = false
takes_functions End = false

abbrev pub at_end : Stage → Bool
at_end Exceptions = false
at_end Functions = false
at_end Rules = false
at_end End = true

-- the theory's stages, by their numbers
abbrev pub stage_of : ℕ → Stage
stage_of zero = Exceptions
stage_of (suc zero) = Functions
stage_of (suc (suc n)) = Rules

-- what every turn keeps: the ceilings, and the lengths of the three arrays
abbrev pub Kept : Top → Type 0
Kept t =
    (t.read.functions ≤ 32) × (length t.read.arities ≡ 48) × (t.read.rules ≤ 64) × (length t.read.openings ≡ 64) × (t.read.exceptions ≤ 16) × (length t.ruled ≡ 32)

-- what a turn came to, by its answer and what it left: the refusal, or the latter
abbrev pub came_to : Result (Unit {0}) Refusal → Top → Result Top Refusal
came_to (Err e) t = Err e
came_to (Ok u) t = Ok t

-- nothing read yet: the built-ins' arities
unfoldable pub start_top : Top
start_top =
    record { place = 0; stage = Exceptions; read = record { exceptions = 0; functions = 0; rules = 0; arities = table []; openings = replicate 64 0 }; ruled = replicate 32 false }

-- the declared functions' arities
unfoldable pub own_arities : Top → List ℕ
own_arities t = take t.read.functions (drop 16 t.read.arities)

-- which of the declared functions have a rule
unfoldable pub own_ruled : Top → List Bool
own_ruled t = take t.read.functions t.ruled

-- one exception more, and on from the place q
abbrev pub with_exception : Top → ℕ → Top
with_exception t q =
    record { place = q; stage = t.stage; read = record { exceptions = t.read.exceptions + 1; functions = t.read.functions; rules = t.read.rules; arities = t.read.arities; openings = t.read.openings }; ruled = t.ruled }

-- the record that declares the exception b: 3 after a function or a rule, 9 past sixteen, 4 if it is not the next
unfoldable pub exception_turn : Top → ℕ → ℕ → Result Top Refusal
exception_turn t b q =
    choose (takes_exceptions t.stage)
    (λ u. choose (ltb t.read.exceptions 16) (λ u. choose (eqb b t.read.exceptions) (λ u. Ok (with_exception t q)) (λ u. refuse WrongNumber t.place)) (λ u. refuse PastCeiling t.place))
    (λ u. refuse KindNotAllowed t.place)

-- one function more, of the arity a, and on from the place q
abbrev pub with_function : Top → ℕ → ℕ → Top
with_function t a q =
    record { place = q; stage = Functions; read = record { exceptions = t.read.exceptions; functions = t.read.functions + 1; rules = t.read.rules; arities = set t.read.arities (16 + t.read.functions) a; openings = t.read.openings }; ruled = t.ruled }

-- the record that declares the function b of the arity a: 3 after a rule, 9 past thirty-two, 4 if it is not the next or the arity is over 4
unfoldable pub function_turn : Top → ℕ → ℕ → ℕ → Result Top Refusal
function_turn t b a q =
    choose (takes_functions t.stage)
    (λ u. choose (ltb t.read.functions 32) (λ u. choose (eqb b t.read.functions && leb a 4) (λ u. Ok (with_function t a q)) (λ u. refuse WrongNumber t.place)) (λ u. refuse PastCeiling t.place))
    (λ u. refuse KindNotAllowed t.place)
