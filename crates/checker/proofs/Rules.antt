-- Every rule of a program whose records are read stands in the bytes where it was opened.
use Prim.Native.Nat.{ℕ, ◌+◌, ◌≤◌}
use mathlib.Core.Path.{◌≡◌, sym, ap, ◌∙◌}
use mathlib.Core.List.{List, ◌++◌, append_assoc}
use native.Mathlib.Omega.{arith}
use lib.ListN.{length, get_or, drop, length-drop}
use lib.Seq.{drop-drop, get_or-drop}
use Rattle.theory.specs.Bytes.{Declared, RuleAt, Book}
use Rattle.theory.specs.Encoding.{encode, encode_pats, encode_rule, encode_program, Each, ValidRule, Readable}
use Rattle.theory.proofs.Lists.{each_both}
use Rattle.theory.proofs.RecordsStand.{StandsAt, rules-stand}
use Rattle.checker.proofs.node.Laws.{nth-get_d}

module _ (ws : List ℕ) where
  -- a rule's opening, its function, its arguments and its right side
  abbrev pub Stands : List ℕ → RuleAt → Type 0
  Stands ns r =
      (r.opened + 2 ≤ length ws) × (get_or ws (r.opened + 1) 0 ≡ r.owner) × (length r.sides.left ≡ get_or ns r.owner 0)
      × ((rest : List ℕ) × (drop (r.opened + 2) ws ≡ encode_pats r.sides.left ++ (encode r.sides.right ++ rest)))

  stands : (D : Declared) (r : RuleAt) → ValidRule D r → StandsAt ws r → Stands D.arities r
  stands D r v (z, e) =
      let n : length (drop r.opened ws) ≡ length (encode_rule r ++ z) = ap length e in
      let m = length-drop r.opened ws in (
        omega (arith, n, m),
        sym (get_or-drop r.opened ws 1 0) ∙ ap (λ x. get_or x 1 0) e,
        v.arguments ∙ nth-get_d D.arities r.owner,
        (z, sym (drop-drop 2 r.opened ws) ∙ ap (drop 2) e ∙ append_assoc (encode_pats r.sides.left) (encode r.sides.right) z),
      )

  pub all-stand : (s : Book) → ws ≡ encode_program s → Readable s → Each (Stands s.decls.arities) s.rules_at
  all-stand s e v = each_both (ValidRule s.decls) (StandsAt ws) (Stands s.decls.arities) s.rules_at (stands s.decls) v.each_rule (rules-stand ws s e v)
