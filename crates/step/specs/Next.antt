-- One step of rewriting, from the words of a term to those of the next.
use Rattle.std.specs.Prelude.{Option as Maybe, Some, None, ℕ, ◌+◌, ◌-◌, List, [], ◌∷◌, ltb, length, get_or, take, drop, replicate}
use Rattle.std.proofs.Math.Option.{Option, none, some}
use Rattle.theory.specs.Syntax.{pick}
use Rattle.theory.specs.Words.{is_var}
use Rattle.rules.specs.Matching.{binds, no_words, taken_by}
use Rattle.rules.specs.declared.index.Span.{Span}
use Rattle.rules.specs.Finding.{fitting_of, rule_of}
use Rattle.rules.specs.declared.lists.Lists.{Lists}
use Rattle.place.specs.Path.{site_at}
use Rattle.place.specs.Noted.{OnPath}
use Rattle.place.specs.declared.Site.{Site}
use Rattle.theory.specs.Buffers.{part}
use Rattle.splice.specs.Right.{step_of, placed, written_of}
use Rattle.step.specs.declared.Next.{Next}
use Rattle.step.specs.declared.Next.TheVariants as next

-- the two sides of a stored rule
abbrev pub left : List ℕ → List ℕ
left rule = take (get_or rule 0 0) (drop 2 rule)

abbrev pub right : List ℕ → List ℕ
right rule = take (get_or rule 1 0) (drop (2 + get_or rule 0 0) rule)

-- what the left side's variables take of the subject
abbrev pub bound_by : List ℕ → List ℕ → List ℕ → List Span
bound_by ks rule subject = binds ks subject (left rule) 0 (replicate 8 no_words)

-- the place past what the word w of a left side takes from the place j on, by the ends of the variables' parts; past the whole side
unfoldable pub past_by : List Span → ℕ → ℕ → ℕ
past_by bound w j = pick (is_var w) (taken_by bound (w - 64)).to (j + 1)

unfoldable pub end_by : List Span → List ℕ → ℕ → ℕ
end_by bound [] j = j
end_by bound (w ∷ left) j = end_by bound left (past_by bound w j)

-- the end of what the rule's left side takes of the term ws from the place p on
abbrev pub end_of : List ℕ → List ℕ → List ℕ → ℕ → ℕ
end_of ks rule ws p = p + end_by (bound_by ks rule (part p (length ws) ws)) (left rule) 0

-- the term ws rewritten at the place p by the rule, whose left side fits there; none where the rule is not whole, or ws ends before it
unfoldable pub ruled : List ℕ → List ℕ → List ℕ → ℕ → Option (List ℕ)
ruled ks rule ws p =
    let b = bound_by ks rule (part p (length ws) ws) in
    pick (ltb (length rule) 2) none (pick (ltb (length rule) (2 + get_or rule 0 0 + get_or rule 1 0)) none
    (pick (ltb (length ws) (end_of ks rule ws p)) none (some (step_of ws p (end_of ks rule ws p) (right rule) b))))

-- where the place and the rule are found, and where not
abbrev pub sited : {A : Type 0} → Maybe Site → (Site → A) → A → A
sited (Some s) f d = f s
sited None f d = d

-- THE NEXT TERM: the deepest place of the path that a rule fits, rewritten by that rule
unfoldable pub next_w : (ks standing own : List ℕ) (standingIndex ownIndex : List Span) (ws : List ℕ) → Option (List ℕ)
next_w ks standing own standingIndex ownIndex ws =
    sited (site_at ks (fitting_of ks standing own standingIndex ownIndex) ws 0)
    (λ s. ruled ks (rule_of standing own (Some s.rule)) ws s.place) none

-- the same by the lists that the code passes
abbrev pub next_by : Lists → List ℕ → Option (List ℕ)
next_by l ws = next_w l.arities.now l.standing.list.now l.own.list.now l.standing.index.now l.own.index.now ws

-- the answer of a step within the room, and the second buffer after it
abbrev pub made : Maybe ℕ → Next
made (Some n) = next.Made n
made None = next.Over

abbrev pub next_in : ℕ → Option (List ℕ) → Next
next_in room none = next.Nothing
next_in room (some u) = made (written_of room u)

abbrev pub placed_next : ℕ → Option (List ℕ) → List ℕ → List ℕ
placed_next room none d = d
placed_next room (some u) d = placed room u d

-- the path is noted up to place number n of the next term, where there is one
abbrev pub OnNext : List ℕ → Option (List ℕ) → List ℕ → ℕ → Type 0
OnNext ks none path n = Unit {0}
OnNext ks (some u) path n = OnPath ks u path n
