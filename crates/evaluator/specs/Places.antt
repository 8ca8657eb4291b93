-- What stands at a place of words.
use Rattle.std.specs.Prelude.{ℕ, ◌-◌, ◌/◌, List, eqb, ltb, leb, length, drop, unwrap_or, Option, Some, None}
use Rattle.theory.specs.Syntax.{pick}
use Rattle.words.specs.Terms.{arity_of, past}
use Rattle.words.specs.Base.{base_of}
use Rattle.words.specs.declared.base.Base.{Base}
use Rattle.evaluator.specs.declared.places.Op.TheVariants.{Succ, Handle, If}
use Rattle.evaluator.specs.declared.places.Kind.{Kind}
use Rattle.evaluator.specs.declared.places.Kind.TheVariants.{Data, Var, Raise, Part, Call, Other}

-- what a constant is the root of; of no constant, what is given
abbrev pub data_or : Option Base → Kind → Kind
data_or (Some x) k = Data x
data_or None k = k

-- what a word is the root of
unfoldable pub kind_of : ℕ → Kind
kind_of w =
    data_or (base_of w)
    (pick (eqb w 2) (Part Succ)
    (pick (eqb w 10) (Part If)
    (pick (eqb w 11) Raise
    (pick (eqb w 12) (Part Handle)
    (pick (ltb w 64) Other
    (pick (ltb w 72) (Var (w - 64))
    (pick (ltb w 256) Other
    (Call ((w - 256) / 8)))))))))

-- how many arguments a call with the root w has; a number over four is no arity
unfoldable pub arguments_of : List ℕ → ℕ → ℕ
arguments_of ks w = pick (leb (arity_of ks w) 4) (arity_of ks w) 0

-- the place past n terms of ws, from the place a on; the end of ws where it ends before that
unfoldable pub place_past : List ℕ → List ℕ → ℕ → ℕ → ℕ
place_past ks ws a n = unwrap_or (past (arity_of ks) (drop a ws) n a) (length ws)
