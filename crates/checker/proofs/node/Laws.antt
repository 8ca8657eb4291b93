-- The laws of a term's record by its kind and body.
use Prim.Native.Nat.{ℕ, zero, suc, ◌+◌, ◌≤◌, ◌<◌}
use mathlib.Core.Path.{◌≡◌, refl, sym}
use mathlib.Core.Bool.{Bool, true, false}
use mathlib.Core.List.{List, [], ◌∷◌}
use native.Mathlib.Omega.{arith}
use lib.Dec.{eqb, ltb}
use lib.ListN.{length, get_or}
use borrow.Author.Tests.{ne_eqb}
use Rattle.std.specs.Prelude.{Ok, Err}
use Rattle.theory.specs.Syntax.{pick}
use Rattle.theory.specs.Bytes
use Rattle.theory.specs.Bytes.{TermRecord, constant_record, succ_record, if_record, variable_record, raise_record, handle_record, call_record, refused, good, or_refuse4, nth_arity, term_record}
use Rattle.theory.proofs.RecordRead.{RecordRead, record-read}
use Rattle.checker.specs.Answer.{declared}
use Rattle.record.specs.declared.Kind.{Kind}
use Rattle.record.specs.declared.Kind.TheVariants.{Zero, Succ, True, False, Variable, Raise, Handle, If, Builtin, Call}
use Rattle.record.specs.Kind.{byte_of}
use Rattle.checker.specs.declared.refusal.Reason.TheVariants.{KindNotAllowed, WrongNumber}
use Rattle.checker.specs.declared.node.Node.TheVariants
use Rattle.checker.specs.declared.node.Node.TheVariants.{Inner}
use Rattle.checker.specs.Node.{tok_at, node_of, function_node}

pub nth-get_d : (ns : List ℕ) (i : ℕ) → nth_arity ns i ≡ get_or ns i 0
nth-get_d [] i = refl
nth-get_d (n ∷ ns) zero = refl
nth-get_d (n ∷ ns) (suc i) = nth-get_d ns i

-- a byte that is no kind
pub none_read : (n : ℕ) (ns : List ℕ) (p k b : ℕ) → ((j : Kind) → byte_of j ≡ k → ⊥) → Err KindNotAllowed ≡ node_of (tok_at n ns p k b)
unfolding node_of tok_at
none_read n ns p k b none =
    let other : (j : Kind) → eqb k (byte_of j) ≡ false = λ j. ne_eqb k (byte_of j) (λ e. none j (sym e)) in
    simp (other Zero, other Succ, other True, other False, other Variable, other Raise, other Handle, other If, other Builtin, other Call)

-- a call of a declared function, by its arity
pub call_read : (n : ℕ) (ns : List ℕ) (p b : ℕ) → function_node ns b ≡ node_of (tok_at n ns p (byte_of Call) b)
unfolding function_node node_of tok_at
call_read n ns p b = rw (← nth-get_d ns b) (by (ltb b (length ns)))
  where
    by : (t : Bool) → pick t (Ok (Inner (nth_arity ns b) 1)) (Err WrongNumber) ≡ node_of (or_refuse4 t (call_record (16 + b) (nth_arity ns b)) p)
    by true = refl
    by false = refl

-- a record is refused at its place; a variable that is read is at most 7
abbrev pub Marked : ℕ → Bytes.Result TermRecord → Type 0
Marked p (refused r) = r.place ≡ p
Marked p (good (constant_record b)) = Unit {0}
Marked p (good succ_record) = Unit {0}
Marked p (good if_record) = Unit {0}
Marked p (good (variable_record x)) = x ≤ 7
Marked p (good (raise_record e)) = Unit {0}
Marked p (good (handle_record e)) = Unit {0}
Marked p (good (call_record k n)) = Unit {0}

pub tok-marked : (n : ℕ) (ns : List ℕ) (p k b : ℕ) → Marked p (tok_at n ns p k b)
unfolding tok_at
tok-marked n ns p k b = by (term_record (declared n ns) p k b) (record-read (declared n ns) p k b)
  where
    by : (r : Bytes.Result TermRecord) → RecordRead (declared n ns) p k b r → Marked p r
    by (refused r) (at, e) = at
    by (good (constant_record c)) e = tt
    by (good succ_record) e = tt
    by (good if_record) e = tt
    by (good (variable_record x)) e = e.2
    by (good (raise_record x)) e = tt
    by (good (handle_record x)) e = tt
    by (good (call_record f n)) e = tt

-- a variable that is read is one of eight
pub variable_read : (n : ℕ) (ns : List ℕ) (p k b x : ℕ) → Ok (TheVariants.Variable x) ≡ node_of (tok_at n ns p k b) → x < 8
unfolding node_of
variable_read n ns p k b x e = by (tok_at n ns p k b) (tok-marked n ns p k b) e
  where
    by : (r : Bytes.Result TermRecord) → Marked p r → Ok (TheVariants.Variable x) ≡ node_of r → x < 8
    by (refused r) m e = cc
    by (good (constant_record c)) m e = cc
    by (good succ_record) m e = cc
    by (good if_record) m e = cc
    by (good (variable_record y)) m e =
        let i : x ≡ y = cc in
        omega (arith, m)
    by (good (raise_record y)) m e = cc
    by (good (handle_record y)) m e = cc
    by (good (call_record f a)) m e = cc
