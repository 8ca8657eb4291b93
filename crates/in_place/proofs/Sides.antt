-- The right side of a rule whose left side is a(x1..xn), by the words R behind that.
use mathlib.Core.Path.{◌≡◌, sym, ap, ◌∙◌}
use mathlib.Core.List.{List}
use Prim.Native.Nat.{ℕ, zero, suc, ◌+◌, ◌-◌, ◌≤◌, ◌<◌}
use native.Mathlib.Omega.{arith}
use lib.ListN.{length, get_or, take, drop, length-drop}
use lib.Seq.{take_all, drop-drop}
use Rattle.std.proofs.lemmas.List.{get_or-drop}
use Rattle.words.specs.Terms.{arity_of}
use Rattle.in_place.specs.InPlace.{vars, Renames, Tests}

length-vars : (x n : ℕ) → length (vars x n) ≡ n
length-vars x zero = omega arith
length-vars x (suc n) = ap suc (length-vars (suc x) n)

module _ (rule R : List ℕ) (n : ℕ) (e : R ≡ drop (n + 3) rule) where
  long : length R ≡ length rule - (n + 3)
  long = ap length e ∙ length-drop (n + 3) rule

  word : (j k : ℕ) → n + 3 + j ≡ k → get_or R j 0 ≡ get_or rule k 0
  word j k z = ap (λ (l : List ℕ). get_or l j 0) e ∙ get_or-drop (n + 3) rule j 0 ∙ ap (λ (i : ℕ). get_or rule i 0) z

  -- the words of R behind the first i, which are those of the rule behind the first k
  module _ (i k : ℕ) (z : n + 3 + i ≡ k) (p : 0 < i) where
    rest : take (length R - i) (drop i R) ≡ drop k rule
    rest =
        take_all (length R - i) (drop i R) (simp length-drop (omega arith))
        ∙ ap (drop i) e ∙ drop-drop i (n + 3) rule ∙ ap (λ (m : ℕ). drop m rule) z

    all : i ≤ length R → take (length R - i) (drop i R) ≡ vars 64 n → (length rule ≡ n + k) × (take n (drop k rule) ≡ vars 64 n)
    all h v =
        let d : drop k rule ≡ vars 64 n = sym rest ∙ v in
        let count : length rule - k ≡ n = sym (length-drop k rule) ∙ ap length d ∙ length-vars 64 n in
        let whole : take n (drop k rule) ≡ drop k rule = take_all n (drop k rule) (simp length-drop (omega (arith, count))) in
        (omega (arith, count, long, z, h, p), whole ∙ d)

  -- b(x1..xn)
  pub renames : 1 ≤ length R → 256 ≤ get_or R 0 0 → take (length R - 1) (drop 1 R) ≡ vars 64 n → Renames rule n × (get_or R 0 0 ≡ get_or rule (n + 3) 0)
  renames h high v =
      let b = word 0 (n + 3) (omega arith) in
      let behind = all 1 (n + 4) (omega arith) (omega arith) h v in (
        record { long = omega (arith, behind.0); high = omega (arith, b, high); all = behind.1 },
        b,
      )

  -- guard(isData(x), b(x1..xn))
  module _ (ks : List ℕ) where
    pub tests : 4 ≤ length R → get_or R 0 0 ≡ 7 → get_or R 1 0 ≡ 9 → 64 ≤ get_or R 2 0 → get_or R 2 0 - 64 < n → 256 ≤ get_or R 3 0 → arity_of ks (get_or R 3 0) ≡ n
        → take (length R - 4) (drop 4 R) ≡ vars 64 n
        → Tests ks rule n × ((get_or R 2 0 - 64 ≡ get_or rule (n + 5) 0 - 64) × (get_or R 3 0 ≡ get_or rule (n + 6) 0))
    tests h guard test variable bound high parts v =
        let x = word 2 (n + 5) (omega arith) in
        let b = word 3 (n + 6) (omega arith) in
        let behind = all 4 (n + 7) (omega arith) (omega arith) h v in (
          record {
            long = omega (arith, behind.0);
            guard = sym (word 0 (n + 3) (omega arith)) ∙ guard;
            test = sym (word 1 (n + 4) (omega arith)) ∙ test;
            variable = omega (arith, x, variable);
            bound = omega (arith, x, bound);
            high = omega (arith, b, high);
            parts = ap (arity_of ks) (sym b) ∙ parts;
            all = behind.1;
          },
          (ap (λ (w : ℕ). w - 64) x, b),
        )
