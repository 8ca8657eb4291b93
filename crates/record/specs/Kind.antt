-- The kinds of records, by the numbers that the documents give them.
use Rattle.std.specs.Prelude.{ℕ, ◌≡◌, ◌≢◌, Result, MatchResult}
use Rattle.record.specs.declared.Kind.{Kind}
use Rattle.record.specs.declared.UnknownKind.{UnknownKind}
use Rattle.record.specs.declared.Kind.TheVariants.{Exception, Function, Rule, End, Zero, Succ, True, False, Variable, Raise, Handle, If, Builtin, Call}

-- the byte of a kind
abbrev pub byte_of : Kind → ℕ
byte_of Exception = 0x01
byte_of Function = 0x02
byte_of Rule = 0x03
byte_of End = 0x04
byte_of Zero = 0x10
byte_of Succ = 0x11
byte_of True = 0x12
byte_of False = 0x13
byte_of Variable = 0x14
byte_of Raise = 0x15
byte_of Handle = 0x16
byte_of If = 0x17
byte_of Builtin = 0x18
byte_of Call = 0x19

-- the kind of the byte, or that it is none's
abbrev pub ReadsAs : ℕ → Result Kind UnknownKind → Type 0
ReadsAs byte result = MatchResult result (λ kind. byte_of kind ≡ byte) (λ e. (kind : Kind) → byte_of kind ≢ byte)
