-- What is said of a report, as bytes.
use Rattle.std.specs.Prelude.{ℕ, List, ◌++◌, eqb, leb, codes}
use Rattle.theory.specs.Syntax.{choose}
use Rattle.bridge.specs.declared.report.Report.{Report}
use Rattle.wording.specs.Text.{number_of}

abbrev pub the_value : List ℕ
the_value = codes "value "

abbrev pub the_exception : List ℕ
the_exception = codes "exception "

abbrev pub the_stuck : List ℕ
the_stuck = codes "stuck "

abbrev pub the_out : List ℕ
the_out = codes "out "

abbrev pub the_deep : List ℕ
the_deep = codes "deep "

abbrev pub the_big : List ℕ
the_big = codes "big "

-- the name of an ending by its number, and a space
unfoldable pub name_of : ℕ → List ℕ
name_of e =
    choose (eqb e 1) (λ u. the_value) (λ u.
    choose (eqb e 2) (λ u. the_exception) (λ u.
    choose (eqb e 3) (λ u. the_stuck) (λ u.
    choose (eqb e 4) (λ u. the_out) (λ u.
    choose (eqb e 5) (λ u. the_deep) (λ u.
    the_big)))))

abbrev pub the_dash : List ℕ
the_dash = codes "-"

-- the amount: only a value, an exception and a stuck ending have one
unfoldable pub amount_of : ℕ → ℕ → List ℕ
amount_of e k = choose (leb e 3) (λ u. number_of k) (λ u. the_dash)

abbrev pub the_zero : List ℕ
the_zero = codes " zero "

abbrev pub the_true : List ℕ
the_true = codes " true "

abbrev pub the_false : List ℕ
the_false = codes " false "

abbrev pub the_none : List ℕ
the_none = codes " - "

-- the base of a value by its number, between spaces
unfoldable pub base_of : ℕ → List ℕ
base_of b =
    choose (eqb b 1) (λ u. the_zero) (λ u.
    choose (eqb b 2) (λ u. the_true) (λ u.
    choose (eqb b 3) (λ u. the_false) (λ u.
    the_none)))

-- an ending: its name, its amount, its base and its steps
unfoldable pub ending_of : Report → List ℕ
ending_of r = name_of r.ending ++ amount_of r.ending r.amount ++ base_of r.base ++ number_of r.steps

abbrev pub the_program : List ℕ
the_program = codes "refused program "

abbrev pub the_question : List ℕ
the_question = codes "refused question "

abbrev pub the_space : List ℕ
the_space = codes " "

-- what a refusal is about
unfoldable pub about_of : ℕ → List ℕ
about_of a = choose (eqb a 2) (λ u. the_question) (λ u. the_program)

-- a refusal: what it is about, its number and its place
unfoldable pub refusal_of : Report → List ℕ
refusal_of r = about_of r.about ++ number_of r.number ++ the_space ++ number_of r.place
