-- ONE RECORD OF A TERM, by its kind k and body b: what is read of it says what they are, or it is refused by 3 or 4 at its place. All that is
-- shown of such a record goes by this, so that a new kind, or a new built-in, is met here.
use Prim.Native.Nat.{ℕ, ◌+◌, ◌<◌, ◌≤◌}
use mathlib.Core.Path.{◌≡◌, refl}
use mathlib.Core.Logic.{◌⊎◌, inl, inr}
use mathlib.Core.Bool.{Bool, true, false}
use lib.Dec.{T, eqb, leb, ltb, leb→le, ltb→lt, eqb→eq}
use lib.ListN.{length}
use Rattle.theory.specs.Syntax.{pick}
use Rattle.theory.specs.Builtins.{builtin_funs, last_called, nth_fun}
use Rattle.theory.specs.Bytes.{TermRecord, constant_record, succ_record, if_record, variable_record, raise_record, handle_record, call_record, Result, refused, good, Declared, nth_arity, or_refuse4, term_record}
use Rattle.theory.specs.Encoding.{base_byte}

module _ (D : Declared) (p k b : ℕ) where
  abbrev pub ReadAs : TermRecord → Type 0
  ReadAs (constant_record c) = k ≡ base_byte c
  ReadAs succ_record = k ≡ 0x11
  ReadAs if_record = k ≡ 0x17
  ReadAs (variable_record x) = (k ≡ 0x14) × (b ≡ x) × (x ≤ 7)
  ReadAs (raise_record e) = (k ≡ 0x15) × (b ≡ e) × (e < D.exceptions)
  ReadAs (handle_record e) = (k ≡ 0x16) × (b ≡ e) × (e < D.exceptions)
  ReadAs (call_record f n) =
      ((k ≡ 0x18) × (b ≡ f) × (f ≤ last_called) × (n ≡ (nth_fun builtin_funs f).arity))
      ⊎ ((k ≡ 0x19) × (f ≡ 16 + b) × (b < length D.arities) × (n ≡ nth_arity D.arities b))

  abbrev pub RecordRead : Result TermRecord → Type 0
  RecordRead (refused r) = (r.place ≡ p) × ((r.number ≡ 3) ⊎ (r.number ≡ 4))
  RecordRead (good t) = ReadAs t

  by_kind : (v : ℕ) (x y : Result TermRecord) → (k ≡ v → RecordRead x) → RecordRead y → RecordRead (pick (eqb k v) x y)
  by_kind v x y f g = go (eqb k v) (λ t. f (eqb→eq k v t))
    where
      go : (c : Bool) → (T c → RecordRead x) → RecordRead (pick c x y)
      go true h = h tt
      go false h = g

  by-test : (c : Bool) (t : TermRecord) → (T c → ReadAs t) → RecordRead (or_refuse4 c t p)
  by-test true t h = h tt
  by-test false t h = (refl, inr refl)

  pub record-read : RecordRead (term_record D p k b)
  record-read =
      by_kind 0x10 _ _ (λ e. e) (by_kind 0x11 _ _ (λ e. e) (by_kind 0x12 _ _ (λ e. e) (by_kind 0x13 _ _ (λ e. e)
      (by_kind 0x14 _ _ (λ e. by-test (leb b 7) (variable_record b) (λ h. (e, refl, leb→le b 7 h)))
      (by_kind 0x15 _ _ (λ e. by-test (ltb b D.exceptions) (raise_record b) (λ h. (e, refl, ltb→lt b D.exceptions h)))
      (by_kind 0x16 _ _ (λ e. by-test (ltb b D.exceptions) (handle_record b) (λ h. (e, refl, ltb→lt b D.exceptions h)))
      (by_kind 0x17 _ _ (λ e. e)
      (by_kind 0x18 _ _ (λ e. by-test (leb b last_called) (call_record b (nth_fun builtin_funs b).arity) (λ h. inl (e, refl, leb→le b last_called h, refl)))
      (by_kind 0x19 _ _ (λ e. by-test (ltb b (length D.arities)) (call_record (16 + b) (nth_arity D.arities b)) (λ h. inr (e, refl, ltb→lt b (length D.arities) h, refl)))
      (refl, inl refl))))))))))
