-- The records that the bytes of terms are, one after the other, and the terms that stand there. `arities` has the arity of each function.
use Rattle.std.specs.Prelude.{◌≡◌, ℕ, zero, suc, ◌+◌, ◌-◌, ◌≤◌, ◌||◌, List, [], ◌∷◌, eqb, length, get_or, drop, Option, Some, None}
use Rattle.theory.specs.Syntax.{zero_b, true_b, false_b, Term, Terms, pick}
use Rattle.theory.specs.Bytes.{TermRecord, constant_record, succ_record, if_record, variable_record, raise_record, handle_record, call_record, record_parts, record_words, terms_from, nth_term}
use Rattle.record.specs.declared.Record.{Record}
use Rattle.record.specs.Record.{record_at}

-- a record by its kind and body, where the kind is one of a term's
abbrev pub plain_record : ℕ → TermRecord
plain_record k = pick (eqb k 0x10) (constant_record zero_b) (pick (eqb k 0x11) succ_record (pick (eqb k 0x12) (constant_record true_b) (pick (eqb k 0x13) (constant_record false_b) if_record)))

abbrev pub long_record : List ℕ → ℕ → ℕ → TermRecord
long_record arities k b =
    pick (eqb k 0x14) (variable_record b) (pick (eqb k 0x15) (raise_record b) (pick (eqb k 0x16) (handle_record b) (pick (eqb k 0x18) (call_record b (get_or arities b 0)) (call_record (16 + b) (get_or arities (16 + b) 0)))))

-- the record of a term that a record of bytes is; those of one byte have no body. Where there is none, it may be any
abbrev pub term_record_of : List ℕ → Option Record → TermRecord
term_record_of arities None = long_record arities 0 0
term_record_of arities (Some r) = pick (eqb r.len 1) (plain_record r.kind) (long_record arities r.kind r.body)

-- a record before others, if there is one; no record of a term has three bytes
abbrev pub record_then : List ℕ → Option Record → List TermRecord → List TermRecord
record_then arities None ks = []
record_then arities (Some r) ks = pick (eqb r.len 1 || eqb r.len 2) (term_record_of arities (Some r) ∷ ks) []

-- how many bytes it takes
abbrev pub length_of : Option Record → ℕ
length_of None = 0
length_of (Some r) = r.len

-- the records of the bytes behind the first n
unfoldable pub records_past : List ℕ → ℕ → List ℕ → List TermRecord
records_past arities zero [] = []
records_past arities zero (k ∷ bs) = record_then arities (record_at (k ∷ bs) 0) (records_past arities (length_of (record_at (k ∷ bs) 0) - 1) bs)
records_past arities (suc n) [] = []
records_past arities (suc n) (k ∷ bs) = records_past arities n bs

abbrev pub records_from : List ℕ → List ℕ → List TermRecord
records_from arities bytes = records_past arities 0 bytes

-- the bytes of a record
abbrev pub record_bytes : TermRecord → ℕ
record_bytes (constant_record b) = 1
record_bytes succ_record = 1
record_bytes if_record = 1
record_bytes (variable_record x) = 2
record_bytes (raise_record e) = 2
record_bytes (handle_record e) = 2
record_bytes (call_record k n) = 2

-- n whole terms stand at the front of the records; what stands behind them; how many bytes they are
abbrev pub Whole : List TermRecord → ℕ → Type 0
Whole [] zero = Unit {0}
Whole [] (suc n) = ⊥
Whole (k ∷ ks) zero = Unit {0}
Whole (k ∷ ks) (suc n) = Whole ks (record_parts k + n)

abbrev pub after : List TermRecord → ℕ → List TermRecord
after [] n = []
after (k ∷ ks) zero = k ∷ ks
after (k ∷ ks) (suc n) = after ks (record_parts k + n)

abbrev pub span_of : List TermRecord → ℕ → ℕ
span_of [] n = 0
span_of (k ∷ ks) zero = 0
span_of (k ∷ ks) (suc n) = record_bytes k + span_of ks (record_parts k + n)

-- how many words n terms at the front are
abbrev pub count_of : List TermRecord → ℕ → ℕ
count_of [] n = 0
count_of (k ∷ ks) zero = 0
count_of (k ∷ ks) (suc n) = record_words k + count_of ks (record_parts k + n)

-- the records from the place p on, and the terms that they are
abbrev pub from : List ℕ → List ℕ → ℕ → List TermRecord
from arities bytes p = records_from arities (drop p bytes)

abbrev pub terms_at : List ℕ → List ℕ → ℕ → Terms
terms_at arities bytes p = terms_from (from arities bytes p)

abbrev pub term_at : List ℕ → List ℕ → ℕ → Term
term_at arities bytes p = nth_term (terms_at arities bytes p) 0

-- `next` is the place past n terms that stand from the place p on
pub record Passed (arities bytes : List ℕ) (p n next : ℕ) : Type 0 where
  pub place : next ≡ p + span_of (from arities bytes p) n
  pub inside : next ≤ length bytes
  pub rest : from arities bytes next ≡ after (from arities bytes p) n
