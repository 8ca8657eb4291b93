-- THE END RECORD: that refusal 17 names the lowest function without a rule, and what is said where every function has one.
use Prim.Native.Nat.{ℕ, suc, ◌+◌, ◌<◌, ◌≤◌}
use mathlib.Core.Path.{◌≡◌, refl, sym, ap, ◌∙◌, subst}
use mathlib.Core.Logic.{◌⊎◌, inl, inr}
use mathlib.Core.Bool.{Bool, true, false, ◌||◌, false≢true}
use mathlib.Core.List.{List, [], ◌∷◌}
use native.Mathlib.Omega.{arith}
use lib.Dec.{eqb}
use lib.ListN.{length}
use Rattle.theory.specs.Syntax.{choose}
use Rattle.theory.specs.Bytes.{Refusal, Result, refused, good, refuse, if_good, Declared, RuleAt, Book, has_rule, declared_at, refuse_lost, read_end}
use Rattle.theory.specs.Encoding.{HasRule, EveryRuled, Lost, LowestLost}
use Rattle.theory.proofs.Tests.{eqb-true, eq-of-eqb, ne-of-eqb}
use Rattle.theory.proofs.Lists.{none_left, or_right}

-- THE TEST of a function, and what it means
has_of : (f : ℕ) (rs : List RuleAt) → has_rule f rs ≡ true → HasRule rs f
has_of f [] h = absurd (false≢true h)
has_of f (r ∷ rs) h = go (eqb r.owner f) refl (has_of f rs) h
  where
    go : (b : Bool) → eqb r.owner f ≡ b → (has_rule f rs ≡ true → HasRule rs f) → (b || has_rule f rs) ≡ true → HasRule (r ∷ rs) f
    go true e ih k = inl (eq-of-eqb r.owner f e)
    go false e ih k = inr (ih k)

of-has : (f : ℕ) (rs : List RuleAt) → HasRule rs f → has_rule f rs ≡ true
of-has f [] h = absurd h
of-has f (r ∷ rs) (inl h) = ap (λ (b : Bool). b || has_rule f rs) (eqb-true r.owner f h)
of-has f (r ∷ rs) (inr h) = or_right (eqb r.owner f) (has_rule f rs) (of-has f rs h)

none_of : (f : ℕ) (rs : List RuleAt) → has_rule f rs ≡ false → HasRule rs f → ⊥
none_of f rs e h = false≢true (sym e ∙ of-has f rs h)

-- THE SEARCH from function f on, with ns the arities from there on
-- f itself, or one behind it
this-or-later : (P : ℕ → Type 0) (f n : ℕ) → P f → ((g : ℕ) → suc f ≤ g → g < n → P g) → (g : ℕ) → f ≤ g → g < n → P g
this-or-later P f n h k g l m = go (eqb f g) refl
  where
    go : (b : Bool) → eqb f g ≡ b → P g
    go true e = subst P (eq-of-eqb f g e) h
    go false e = let d = ne-of-eqb f g e in k g (omega (arith, l, d)) m

module _ (D : Declared) (rs : List RuleAt) where
  record Lowest (f : ℕ) (ns : List ℕ) (r : Refusal) : Type 0 where
    lost : ℕ
    from : f ≤ lost
    below : lost < f + length ns
    no-rule : HasRule rs lost → ⊥
    lower : (g : ℕ) → f ≤ g → g < lost → HasRule rs g
    number : r.number ≡ 17
    place : r.place ≡ declared_at D lost

  abbrev AllRuled : ℕ → List ℕ → Type 0
  AllRuled f ns = (g : ℕ) → f ≤ g → g < f + length ns → HasRule rs g

  abbrev Tells : ℕ → List ℕ → Result (Unit {0}) → Type 0
  Tells f ns (refused r) = Lowest f ns r
  Tells f ns (good u) = AllRuled f ns

  lost-tells : (f : ℕ) (ns : List ℕ) → Tells f ns (refuse_lost D rs f ns)
  lost-tells f [] = λ g l h. absurd (omega (arith, l, h))
  lost-tells f (a ∷ ns) = go (has_rule f rs) refl (lost-tells (suc f) ns)
    where
      more : HasRule rs f → (r : Result (Unit {0})) → Tells (suc f) ns r → Tells f (a ∷ ns) r
      more w (refused r) h =
          let i = h.from in
          let j = h.below in
          record {
            lost = h.lost;
            from = omega (arith, i);
            below = omega (arith, j);
            no-rule = h.no-rule;
            lower = this-or-later (HasRule rs) f h.lost w h.lower;
            number = h.number;
            place = h.place;
          }
      more w (good u) h = λ g l m. this-or-later (HasRule rs) f (suc f + length ns) w h g l (omega (arith, m))

      go : (b : Bool) → has_rule f rs ≡ b → Tells (suc f) ns (refuse_lost D rs (suc f) ns) → Tells f (a ∷ ns) (choose b (λ u. refuse_lost D rs (suc f) ns) (λ u. refuse 17 (declared_at D f)))
      go true w h = more (has_of f rs w) (refuse_lost D rs (suc f) ns) h
      go false w h =
          record {
            lost = f;
            from = omega arith;
            below = omega arith;
            no-rule = none_of f rs w;
            lower = λ g l m. absurd (omega (arith, l, m));
            number = refl;
            place = refl;
          }

  lost-refuses : (f : ℕ) (ns : List ℕ) (l : ℕ) → f ≤ l → l < f + length ns → (HasRule rs l → ⊥) → ((g : ℕ) → f ≤ g → g < l → HasRule rs g) → refuse_lost D rs f ns ≡ refuse 17 (declared_at D l)
  lost-refuses f [] l i j n h = absurd (omega (arith, i, j))
  lost-refuses f (a ∷ ns) l i j n h = go (has_rule f rs) refl (λ k. lost-refuses (suc f) ns l k (omega (arith, j)) n (λ g u v. h g (omega (arith, u)) v))
    where
      go : (b : Bool) → has_rule f rs ≡ b → (suc f ≤ l → refuse_lost D rs (suc f) ns ≡ refuse 17 (declared_at D l)) → choose b (λ u. refuse_lost D rs (suc f) ns) (λ u. refuse 17 (declared_at D f)) ≡ refuse 17 (declared_at D l)
      go true w ih = let d : f ≡ l → ⊥ = λ e. n (subst (HasRule rs) e (has_of f rs w)) in ih (omega (arith, i, d))
      go false w ih = at (eqb f l) refl
        where
          at : (b : Bool) → eqb f l ≡ b → ◌≡◌ {A = Result (Unit {0})} (refuse 17 (declared_at D f)) (refuse 17 (declared_at D l))
          at true d = ap (λ (k : ℕ). refuse 17 (declared_at D k)) (eq-of-eqb f l d)
          at false d = let o = ne-of-eqb f l d in absurd (none_of f rs w (h f (omega arith) (omega (arith, i, o))))

  lost-none : (f : ℕ) (ns : List ℕ) → AllRuled f ns → refuse_lost D rs f ns ≡ good tt
  lost-none f [] h = refl
  lost-none f (a ∷ ns) h =
      ap (λ (b : Bool). choose b (λ u. refuse_lost D rs (suc f) ns) (λ u. refuse 17 (declared_at D f))) (of-has f rs (h f (omega arith) (omega arith)))
      ∙ lost-none (suc f) ns (λ g l m. h g (omega (arith, l)) (omega (arith, m)))

-- THE RECORD: good, with nothing behind it and no function lost; or 17 by the search; or else 11, behind the record
pub record LostSaid (s : Book) (r : Refusal) : Type 0 where
  pub function : ℕ
  pub lowest : LowestLost s function
  pub number : r.number ≡ 17
  pub place : r.place ≡ declared_at s.decls function

abbrev pub EndSays : Book → ℕ → List ℕ → Result Book → Type 0
EndSays s p bs (refused r) = LostSaid s r ⊎ ((r.number ≡ 11) × (r.place ≡ p))
EndSays s p bs (good t) = (s ≡ t) × (bs ≡ []) × EveryRuled s

searched : (s : Book) → Tells s.decls s.rules_at 0 s.decls.arities (refuse_lost s.decls s.rules_at 0 s.decls.arities)
searched s = lost-tells s.decls s.rules_at 0 s.decls.arities

lowest-of : (s : Book) (r : Refusal) (h : Lowest s.decls s.rules_at 0 s.decls.arities r) → LowestLost s h.lost
lowest-of s r h = let b = h.below in ((omega (arith, b), h.no-rule), λ g l. h.lower g (omega arith) l)

pub end-says : (s : Book) (p : ℕ) (bs : List ℕ) → EndSays s p bs (read_end s p bs)
end-says s p bs = go (refuse_lost s.decls s.rules_at 0 s.decls.arities) (searched s)
  where
    left : (b : Bool) → eqb (length bs) 0 ≡ b → EveryRuled s → EndSays s p bs (choose b (λ u. good s) (λ u. refuse 11 p))
    left true e h = (refl, none_left bs (eq-of-eqb (length bs) 0 e), h)
    left false e h = inr (refl, refl)

    go : (r : Result (Unit {0})) → Tells s.decls s.rules_at 0 s.decls.arities r → EndSays s p bs (if_good r (λ u. choose (eqb (length bs) 0) (λ u. good s) (λ u. refuse 11 p)))
    go (refused r) h = inl (record { function = h.lost; lowest = lowest-of s r h; number = h.number; place = h.place })
    go (good u) h = left (eqb (length bs) 0) refl (λ f l. h f (omega arith) (omega (arith, l)))

-- and the other way
pub end-good : (s : Book) (p : ℕ) → EveryRuled s → read_end s p [] ≡ good s
end-good s p h = ap (λ (r : Result (Unit {0})). if_good r (λ u. good s)) (lost-none s.decls s.rules_at 0 s.decls.arities (λ g l m. h g (omega (arith, m))))

pub end-lost : (s : Book) (p : ℕ) (bs : List ℕ) (l : ℕ) → LowestLost s l → read_end s p bs ≡ refuse 17 (declared_at s.decls l)
end-lost s p bs l ((i, n), h) =
    ap (λ (r : Result (Unit {0})). if_good r (λ u. choose (eqb (length bs) 0) (λ u. good s) (λ u. refuse 11 p)))
    (lost-refuses s.decls s.rules_at 0 s.decls.arities l (omega arith) (omega (arith, i)) n (λ g u v. h g v))

-- where some function has no rule, there is a lowest
pub lowest-lost : (s : Book) (f : ℕ) → Lost s f → (l : ℕ) × LowestLost s l
lowest-lost s f (h, n) = go (refuse_lost s.decls s.rules_at 0 s.decls.arities) (searched s)
  where
    go : (r : Result (Unit {0})) → Tells s.decls s.rules_at 0 s.decls.arities r → (l : ℕ) × LowestLost s l
    go (refused r) t = (t.lost, lowest-of s r t)
    go (good u) t = absurd (n (t f (omega arith) (omega (arith, h))))
