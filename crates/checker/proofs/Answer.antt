-- The answers of the two public calls, from what was parsed and scanned.
use Prim.Native.Nat.{ℕ, suc, ◌-◌, ◌≤◌, ◌<◌}
use mathlib.Core.Path.{◌≡◌, refl, sym, ap, ◌∙◌}
use mathlib.Core.List.{List, []}
use native.Mathlib.Omega.{arith}
use lib.ListN.{length, length-drop}
use lib.Dec.{eqb}
use borrow.Author.Tests.{le-leb, lt-leb, eq-eqb, ne_eqb}
use Rattle.std.specs.Prelude.{Option, Some, None, Result, Ok, Err}
use Rattle.theory.specs.Bytes.{refused, good, if_good, Book, rule_count, read_records, empty_book, refuse_overlaps, read_program, in_question, read_side, nth_term, terms_from, read_question}
use Rattle.theory.specs.Bytes
use Rattle.theory.specs.Syntax.{choose, Term}
use Rattle.checker.specs.declared.declarations.Stage.TheVariants.{End}
use Rattle.checker.specs.declared.refusal.Reason.TheVariants.{ProgramTooLong, BytesLeftOver}
use Rattle.checker.specs.declared.refusal.Refusal.{Refusal}
use Rattle.checker.specs.Refusal.{refuse, refusal_of}
use Rattle.checker.specs.declared.declarations.Top.{Top}
use Rattle.checker.specs.declared.side.Stand.TheVariants.{Asked}
use Rattle.checker.specs.declared.side.Side.{Side}
use Rattle.checker.specs.Answer.{checked_of, declared, verdict_of}
use Rattle.theory.specs.Bytes.{opened_at}
use Rattle.checker.specs.Side.{no_vars, scan_from, seen_in}
use Rattle.checker.specs.Declarations.{Kept, own_arities}
use Rattle.checker.specs.Program.{parse_of, top_at, top_of, settled, own_openings}
use Rattle.checker.specs.Overlap.{first_clash}
use Rattle.checker.proofs.program.Theory.{own-are, parse-is}
use Rattle.theory.specs.Encoding.{Each}
use Rattle.theory.proofs.SidesGive.{ok_of}
use Rattle.theory.proofs.ProgramRead.{AllRead, records-read}
use Rattle.checker.proofs.Table.{openings-used}
use Rattle.checker.proofs.Rules.{Stands, all-stand}
use Rattle.checker.proofs.overlap.Theory.{as_result, overlap-is}
use Rattle.checker.proofs.side.Scan.{scan-fuel}
use Rattle.checker.proofs.side.Theory.{Same, scan-is-side}

abbrev joined : Bytes.Result Book → Bytes.Result Book
joined r = if_good r (λ s. if_good (refuse_overlaps [] s.rules_at) (λ u. good s))

openings-are : (s : Book) → rule_count s.rules_at ≤ 64 → own_openings (top_at s End 0) ≡ opened_at s.rules_at
unfolding own_openings top_at
openings-are s h = openings-used 64 s.rules_at h

settled_is : (s : Book) (o : Option ℕ) → settled (top_at s End 0) o ≡ checked_of (if_good (as_result o) (λ u. good s))
unfolding settled checked_of top_at
settled_is s (Some q) = refl
settled_is s None = refl

functions-fit : (s : Book) → Kept (top_at s End 0) → length s.decls.arities ≤ 32
unfolding top_at
functions-fit s k = k.0

rules-fit : (s : Book) → Kept (top_at s End 0) → rule_count s.rules_at ≤ 64
unfolding top_at
rules-fit s k = k.2

module _ (ws : List ℕ) where
  good-settled : (s : Book) (t : Top) → t ≡ top_at s End 0 → Kept t → Each (Stands ws s.decls.arities) s.rules_at → settled t (first_clash ws (own_arities t) [] (own_openings t)) ≡ checked_of (joined (good s))
  good-settled s t e k h =
      let f : length s.decls.arities ≤ 32 = functions-fit s (rw e at k) in
      let n : rule_count s.rules_at ≤ 64 = rules-fit s (rw e at k) in
      rw (e, own-are s End 0 f, openings-are s n)
      (settled_is s (first_clash ws s.decls.arities [] (opened_at s.rules_at)) ∙ ap (λ o. checked_of (if_good o (λ u. good s))) (overlap-is ws s.decls.arities [] s.rules_at tt h))

  joined-refused : (r : Bytes.Result Book) (e : Refusal) → Err e ≡ top_of r → Err e ≡ checked_of (joined r)
  unfolding top_of checked_of
  joined-refused (refused r) e h = let i : e ≡ refusal_of r = cc in ap Err i
  joined-refused (good s) e h = cc

  joined-settled : (r : Bytes.Result Book) (t : Top) → read_records (suc (length ws)) empty_book 0 ws ≡ r → Ok t ≡ top_of r → Kept t → settled t (first_clash ws (own_arities t) [] (own_openings t)) ≡ checked_of (joined r)
  unfolding top_of
  joined-settled (refused r) t h e k = cc
  joined-settled (good s) t h e k =
      let a = ok_of (AllRead ws) (read_records (suc (length ws)) empty_book 0 ws) s (records-read ws) h in
      let i : t ≡ top_at s End 0 = cc in
      good-settled s t i k (all-stand ws s a.0 a.1)

  module _ (short : length ws ≤ 8192) where
    pub program_stops : (e : Refusal) → Err e ≡ parse_of ws → Err e ≡ checked_of (read_program ws)
    unfolding read_program
    program_stops e h = rw (le-leb (length ws) 8192 short) (joined-refused (read_records (suc (length ws)) empty_book 0 ws) e (h ∙ parse-is ws))

    pub program_settled : (t : Top) → Ok t ≡ parse_of ws → Kept t → settled t (first_clash ws (own_arities t) [] (own_openings t)) ≡ checked_of (read_program ws)
    unfolding read_program
    program_settled t h k = rw (le-leb (length ws) 8192 short) (joined-settled (read_records (suc (length ws)) empty_book 0 ws) t refl (h ∙ parse-is ws) k)

pub program_long : (ws : List ℕ) → 8192 < length ws → refuse ProgramTooLong 0 ≡ checked_of (read_program ws)
unfolding read_program checked_of
program_long ws h = rw (lt-leb (length ws) 8192 h)

-- the verdict on a question, from its scan
module _ (n : ℕ) (ns ws : List ℕ) where
  abbrev ended : Bytes.Result Bytes.Side → Bytes.Result Term
  ended r = if_good r (λ s. choose (eqb (length s.rest) 0) (λ u. good (nth_term (terms_from s.records) 0)) (λ u. Bytes.refuse 11 s.from))

  ended-refused : (r : Bytes.Result Bytes.Side) (e : Refusal) → Same n ns ws 0 r (Err e) → Err e ≡ verdict_of (ended r)
  ended-refused (refused r) e h =
      let k = h.0 in
      let i : e ≡ refusal_of r = cc in
      ap Err i
  ended-refused (good s) e h = let i = h.0 in cc

  module _ (o : Side) where
    ended-more : (r : Bytes.Result Bytes.Side) → Same n ns ws 0 r (Ok o) → o.at < length ws → refuse BytesLeftOver o.at ≡ verdict_of (ended r)
    ended-more (refused r) h l = let i = h.0 in cc
    ended-more (good s) h l =
        let i = h.0 in
        let j : record { at = s.from; seen = seen_in s.seen } ≡ o = cc in
        let a : s.from ≡ o.at = ap (λ (x : Side). x.at) j in
        let z : length s.rest ≡ 0 → ⊥ = rw (h.1.0, length-drop) (omega arith) in
        rw (ne_eqb (length s.rest) 0 z, a)

    ended-good : (r : Bytes.Result Bytes.Side) → Same n ns ws 0 r (Ok o) → length ws ≤ o.at → Ok tt ≡ verdict_of (ended r)
    ended-good (refused r) h l = let i = h.0 in cc
    ended-good (good s) h l =
        let i = h.0 in
        let j : record { at = s.from; seen = seen_in s.seen } ≡ o = cc in
        let a : s.from ≡ o.at = ap (λ (x : Side). x.at) j in
        let z : length s.rest ≡ 0 = rw (h.1.0, length-drop) (omega arith) in
        rw (eq-eqb (length s.rest) 0 z)

  asked-same : (o : Result Side Refusal) → o ≡ scan_from n ns ws Asked no_vars 1 0 0 → Same n ns ws 0 (read_side (declared n ns) (suc (length ws)) in_question 1 0 0 ws) o
  unfolding scan_from
  asked-same o scanned =
      let h = scan-is-side n ns ws (suc (length ws)) in_question 1 0 0 in
      (h.0 ∙ scan-fuel n ns ws (suc (length ws)) (suc (length ws - 0)) Asked no_vars 1 0 0 (omega arith) (omega arith) ∙ sym scanned, h.1)

  pub asked_refused : (e : Refusal) → Err e ≡ scan_from n ns ws Asked no_vars 1 0 0 → Err e ≡ verdict_of (read_question (declared n ns) ws)
  unfolding read_question
  asked_refused e h = ended-refused (read_side (declared n ns) (suc (length ws)) in_question 1 0 0 ws) e (asked-same (Err e) h)

  module _ (o : Side) (scanned : Ok o ≡ scan_from n ns ws Asked no_vars 1 0 0) where
    pub asked_more : o.at < length ws → refuse BytesLeftOver o.at ≡ verdict_of (read_question (declared n ns) ws)
    unfolding read_question
    asked_more l = ended-more o (read_side (declared n ns) (suc (length ws)) in_question 1 0 0 ws) (asked-same (Ok o) scanned) l

    pub asked_good : length ws ≤ o.at → Ok tt ≡ verdict_of (read_question (declared n ns) ws)
    unfolding read_question
    asked_good l = ended-good o (read_side (declared n ns) (suc (length ws)) in_question 1 0 0 ws) (asked-same (Ok o) scanned) l
