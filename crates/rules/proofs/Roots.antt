-- The rules of a root: the search looks where the index has them, and where it has none, nothing fits. The usual standing list begins with
-- its opening.
use mathlib.Core.Path.{◌≡◌, refl, sym, ap, ◌∙◌}
use mathlib.Core.List.{List, ◌∷◌, ◌++◌}
use Prim.Native.Nat.{ℕ, ◌-◌}
use lib.ListN.{length, get_or, take, drop, take-append-drop}
use Rattle.std.specs.Prelude.{Option, None}
use Rattle.rules.specs.Finding.{first_fit, moved, first_among, first_in, first_at, fitting_of}
use Rattle.rules.specs.Usual.{opening, NoRules, Spans, Usual}
use Rattle.rules.specs.declared.index.Span.{Span}
use Rattle.rules.proofs.Placed.{first-none, found-in-own}

pub searched : (ks list : List ℕ) (index : List Span) (ss : List ℕ) (a b : ℕ) → Spans index (length list) (get_or ss 0 0) a b → first_at ks list index ss ≡ moved a (first_fit ks (take (b - a) (drop a list)) ss)
unfolding first_at first_in
searched ks list index ss a b h = ap (λ (s : Option Span). first_among ks list s ss) h

pub unruled : (ks standing own : List ℕ) (si oi : List Span) (w : ℕ) (ws : List ℕ) → NoRules si w → NoRules oi w → fitting_of ks standing own si oi (w ∷ ws) ≡ None
unruled ks standing own si oi w ws hs ho =
    sym (found-in-own ks standing own si oi (w ∷ ws) (first-none ks standing si (w ∷ ws) {w = w} refl hs) refl (first-none ks own oi (w ∷ ws) {w = w} refl ho) refl)

pub usual-begins : (standing : List ℕ) (si oi : List Span) → Usual standing si oi → standing ≡ opening ++ drop 50 standing
usual-begins standing si oi usual = sym (take-append-drop 50 standing) ∙ ap (λ (l : List ℕ). l ++ drop 50 standing) usual.begins
