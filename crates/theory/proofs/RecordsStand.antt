-- WHERE THE RECORDS STAND: at the place of a function's declaration its 02 record, at a rule's opening its 03 record with its sides.
use Prim.Native.Nat.{ℕ, zero, suc, ◌+◌, ◌*◌, ◌<◌}
use mathlib.Core.Path.{◌≡◌, sym, ap, ap₂, ◌∙◌}
use mathlib.Core.List.{List, [], ◌∷◌, ◌++◌, append_assoc}
use native.Mathlib.Omega.{arith}
use lib.ListN.{length, drop, length-drop}
use lib.Seq.{drop-drop, drop-append_seam, drop-append-add}
use Rattle.theory.specs.Bytes.{nth_arity, RuleAt, Book, declared_at}
use Rattle.theory.specs.Encoding.{encode_rule, encode_rules, encode_exns, encode_funs, encode_program, Each, OpenedFrom, Readable, LostAt}
use Rattle.theory.proofs.ProgramRead.{ending, encoded-behind}

past-exceptions : (e n m : ℕ) (z : List ℕ) → drop (2 * n + m) (encode_exns e n ++ z) ≡ drop m z
past-exceptions e zero m z =
    let i : 2 * 0 + m ≡ m = omega arith in
    ap (λ (i : ℕ). drop i z) i
past-exceptions e (suc n) m z =
    let i : 2 * suc n + m ≡ suc (suc (2 * n + m)) = omega arith in
    ap (λ (i : ℕ). drop i (0x01 ∷ e ∷ (encode_exns (suc e) n ++ z))) i ∙ past-exceptions (suc e) n m z

at-function : (f : ℕ) (ns : List ℕ) (l : ℕ) (z : List ℕ) → l < length ns
    → (rest : List ℕ) × (drop (3 * l) (encode_funs f ns ++ z) ≡ 0x02 ∷ (f + l) ∷ nth_arity ns l ∷ rest)
at-function f [] l z h = absurd (omega (arith, h))
at-function f (a ∷ ns) zero z h =
    let i : f ≡ f + 0 = omega arith in
    (encode_funs (suc f) ns ++ z, ap (λ (i : ℕ). 0x02 ∷ i ∷ a ∷ (encode_funs (suc f) ns ++ z)) i)
at-function f (a ∷ ns) (suc l) z h =
    let r = at-function (suc f) ns l z (omega (arith, h)) in
    let i : 3 * suc l ≡ suc (suc (suc (3 * l))) = omega arith in
    let j : suc f + l ≡ f + suc l = omega arith in
    (r.0, ap (λ (i : ℕ). drop i (0x02 ∷ f ∷ a ∷ (encode_funs (suc f) ns ++ z))) i ∙ r.1 ∙ ap (λ (k : ℕ). 0x02 ∷ k ∷ nth_arity ns l ∷ r.0) j)

pub declared-at : (s : Book) (z : List ℕ) (f : ℕ) → f < length s.decls.arities
    → (rest : List ℕ) × (drop (declared_at s.decls f) (encode_program s ++ z) ≡ 0x02 ∷ f ∷ nth_arity s.decls.arities f ∷ rest)
declared-at s z f h =
    let k : 0 + f ≡ f = omega arith in
    let r = at-function 0 s.decls.arities f (ending s.rules_at z) h in (
      r.0,
      ap (drop (declared_at s.decls f)) (encoded-behind s z)
          ∙ past-exceptions 0 s.decls.exceptions (3 * f) _
          ∙ r.1
          ∙ ap (λ (k : ℕ). 0x02 ∷ k ∷ nth_arity s.decls.arities f ∷ r.0) k,
    )

-- so 17 is refused at the declaration of the function that has no rule, within the bytes
pub lost-place-is-declaration : (p : List ℕ) (q : ℕ) (h : LostAt p q)
    → (rest : List ℕ) × (drop q p ≡ 0x02 ∷ h.function ∷ nth_arity h.through.read.decls.arities h.function ∷ rest)
lost-place-is-declaration p q h =
    let r = declared-at h.through.read h.through.behind h.function h.lowest.0.0 in
    (r.0, ap₂ (λ (i : ℕ) (l : List ℕ). drop i l) h.place h.through.is_read ∙ r.1)

pub lost-place-within : (p : List ℕ) (q : ℕ) → LostAt p q → q < length p
lost-place-within p q h =
    let r = lost-place-is-declaration p q h in
    let e : length (drop q p) ≡ suc (suc (suc (length r.0))) = ap length r.1 in
    let l = length-drop q p in
    omega (arith, e, l)

-- RULES, one after the other
module _ (ws : List ℕ) where
  abbrev pub StandsAt : RuleAt → Type 0
  StandsAt r = (rest : List ℕ) × (drop r.opened ws ≡ encode_rule r ++ rest)

  each_stands : (p : ℕ) (rs : List RuleAt) (z : List ℕ) → OpenedFrom p rs → drop p ws ≡ encode_rules rs ++ z → Each StandsAt rs
  each_stands p [] z o e = tt
  each_stands p (r ∷ rs) z o e =
      let here : drop p ws ≡ encode_rule r ++ (encode_rules rs ++ z) = e ∙ append_assoc (encode_rule r) (encode_rules rs) z in
      let next : drop (p + length (encode_rule r)) ws ≡ encode_rules rs ++ z =
      sym (drop-drop (length (encode_rule r)) p ws) ∙ ap (drop (length (encode_rule r))) here ∙ drop-append_seam (encode_rule r) (encode_rules rs ++ z) in (
        (encode_rules rs ++ z, ap (λ (i : ℕ). drop i ws) o.0 ∙ here),
        each_stands (p + length (encode_rule r)) rs z o.1 next,
      )

  pub rules-stand : (s : Book) → ws ≡ encode_program s → Readable s → Each StandsAt s.rules_at
  rules-stand s e v =
      let E = encode_exns 0 s.decls.exceptions in
      let F = encode_funs 0 s.decls.arities in
      let R = encode_rules s.rules_at ++ (0x04 ∷ []) in
      each_stands (length E + length F) s.rules_at (0x04 ∷ []) v.opened (ap (drop (length E + length F)) e ∙ drop-append-add E (F ++ R) (length F) ∙ drop-append_seam F R)
