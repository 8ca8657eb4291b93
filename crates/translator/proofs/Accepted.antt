-- AN ACCEPTED PROGRAM'S RULES stand at their openings; its own list, from its bytes, is that of the program that is read; an accepted
-- question's words are those of the term that is read.
use mathlib.Core.Path.{◌≡◌, refl, sym, ap, ap₂, ◌∙◌, subst}
use mathlib.Core.List.{List, [], ◌∷◌, ◌++◌, append_assoc}
use Prim.Native.Nat.{ℕ, zero, suc, ◌+◌, ◌≤◌, ◌<◌}
use native.Mathlib.Omega.{arith}
use lib.ListN.{length, get_or, drop, length-drop}
use lib.Seq.{drop-drop, get_or-drop, drop-append_seam}
use Rattle.theory.proofs.Accepted.{declared-function, nth-fun, length-funs}
use Rattle.theory.proofs.SidesRead.{low-pats}
use Rattle.theory.specs.Syntax.{Pat, pbase, psucc, pvar, many, Fun}
use Rattle.theory.specs.Builtins.{fun_of, numbers_of}
use Rattle.theory.specs.Tree.{Rule, ◌▹◌}
use Rattle.theory.specs.Words.{words, stored_rules}
use Rattle.theory.specs.Translation.{tree, trees, pat_t, pat_ts, succ_t, exn_rules, fun_rules, gather, numbers, own_list}
use Rattle.theory.specs.Bytes.{first_terms, good, Declared, nth_arity, RuleAt, Book, read_program, defs_of, funs_of, program_of, Agrees}
use Rattle.theory.specs.Encoding.{encode, encode_pats, encode_rule, Each, ValidRule}
use Rattle.theory.proofs.RecordsOfTerms.{term_of, terms_of, pats-many, pats-bytes, pats-words}
use Rattle.theory.proofs.AcceptedExactly.{accepted-exactly}
use Rattle.theory.proofs.RecordsStand.{StandsAt, rules-stand}
use Rattle.theory.proofs.Readability.{length-words}
use Rattle.term_words.specs.Records.{Whole, span_of, count_of, from, terms_at, term_at}
use Rattle.term_words.proofs.Standing.{Standing, terms-stand, StandingOne, term-stands, question-stands}
use Rattle.translator.specs.declared.Source.{Source}
use Rattle.translator.specs.Opened.{right_at}
use Rattle.translator.specs.Listed.{Here, Stand, arity_of, rules_of, rules_in, Listed, Small}
use Rattle.translator.specs.List.{fun_at, rules_for, own_in}
use Rattle.translator.specs.Accepted.{Accepted, Asked}
use Rattle.theory.specs.Bytes.{opened_at}
use Rattle.translator.proofs.Laws.{term-count}

pat-tree : (p : Pat) → pat_t p ≡ tree (term_of p)
pat-tree (pbase b) = refl
pat-tree (psucc p) = ap succ_t (pat-tree p)
pat-tree (pvar x) = refl

pats-trees : (ps : List Pat) → pat_ts ps ≡ trees (terms_of ps)
pats-trees [] = refl
pats-trees (p ∷ ps) = ap₂ ◌▹◌ (pat-tree p) (pats-trees ps)

-- ONE RULE, where its bytes stand
module _ (D : Declared) (x : Source) (h : Agrees D x.arities.now) where
  rule-stands : (r : RuleAt) → ValidRule D r → (p : ℕ) (rest : List ℕ) → drop p x.program.now ≡ encode_rule r ++ rest → Here x p r
  rule-stands r v p rest e =
      record {
        owner = sym (get_or-drop p x.program.now 1 0) ∙ ap (λ (l : List ℕ). get_or l 1 0) e;
        opened = record { inside = inside; left = whole; right = right-stands.whole; small_left = small_left; small_right = small_right };
        left = pats-trees ps ∙ ap trees (sym left-stands.terms) ∙ ap (λ (i : ℕ). trees (first_terms i (terms_at x.arities.now x.program.now (p + 2)))) arity;
        right = sym right-stands.term;
      }
    where
      ps : List Pat
      ps = r.sides.left

      L : List ℕ
      L = encode_pats r.sides.left

      R : List ℕ
      R = encode r.sides.right

      a : ℕ
      a = arity_of x r

      inside : p + 2 ≤ length x.program.now
      inside = let m = ap length e in let n = length-drop p x.program.now in omega (arith, m, n)

      sides : drop (p + 2) x.program.now ≡ L ++ (R ++ rest)
      sides = sym (drop-drop 2 p x.program.now) ∙ ap (drop 2) e ∙ append_assoc L R rest

      left-stands : Standing x.arities.now (drop (p + 2) x.program.now) (terms_of ps)
      left-stands = terms-stand D x.arities.now h (terms_of ps) (low-pats D ps v.left_variables) (drop (p + 2) x.program.now) (R ++ rest) (sides ∙ ap (◌++ (R ++ rest)) (sym (pats-bytes ps)))

      arity : many (terms_of ps) ≡ arity_of x r
      arity = pats-many ps ∙ v.arguments ∙ sym (h.declared r.owner v.declared)

      whole : Whole (from x.arities.now x.program.now (p + 2)) (arity_of x r)
      whole = subst (Whole (from x.arities.now x.program.now (p + 2))) arity left-stands.whole

      small_left : count_of (from x.arities.now x.program.now (p + 2)) (arity_of x r) ≤ 128
      small_left =
          let c = ap (count_of (from x.arities.now x.program.now (p + 2))) (sym arity) ∙ left-stands.count ∙ pats-words ps in
          let m = v.left_words in
          omega (arith, c, m)

      place : right_at x p (arity_of x r) ≡ p + 2 + length L
      place = ap (p + 2 +◌) (ap (span_of (from x.arities.now x.program.now (p + 2))) (sym arity) ∙ left-stands.span ∙ ap length (pats-bytes ps))

      behind : drop (right_at x p (arity_of x r)) x.program.now ≡ R ++ rest
      behind = ap (λ (i : ℕ). drop i x.program.now) place ∙ sym (drop-drop (length L) (p + 2) x.program.now) ∙ ap (drop (length L)) sides ∙ drop-append_seam L (R ++ rest)

      right-stands : StandingOne x.arities.now (drop (right_at x p (arity_of x r)) x.program.now) r.sides.right
      right-stands = term-stands D x.arities.now h r.sides.right v.right_over (drop (right_at x p (arity_of x r)) x.program.now) rest behind

      small_right : count_of (from x.arities.now x.program.now (right_at x p (arity_of x r))) 1 ≤ 128
      small_right = let c = right-stands.count in let m = v.right_words in omega (arith, c, m)

  -- ALL RULES, at their openings
  all-stand : (rs : List RuleAt) → Each (ValidRule D) rs → Each (StandsAt x.program.now) rs → Stand x (opened_at rs) rs
  all-stand [] v o = tt
  all-stand (r ∷ rs) v o = (rule-stands r v.0 r.opened o.0.0 o.0.1, all-stand rs v.1 o.1)

length-openings : (rs : List RuleAt) → length (opened_at rs) ≡ length rs
length-openings [] = refl
length-openings (r ∷ rs) = ap suc (length-openings rs)

accepted-listed : (x : Source) (s : Book) → read_program x.program.now ≡ good s → Agrees s.decls x.arities.now → x.openings.now ≡ opened_at s.rules_at → Listed x
unfolding rules_in
accepted-listed x s e h o =
    let y = (accepted-exactly x.program.now s).0 e in
    let v = y.1.readable in
    let n = v.rules in
    let m = length-openings s.rules_at in
    record {
      stand =
          subst (λ (ps : List ℕ). Stand x ps (rules_in x)) (sym o)
          (subst (Stand x (opened_at s.rules_at)) (sym (ap rules_of e)) (all-stand s.decls x h s.rules_at v.each_rule (rules-stand x.program.now s y.0 v)));
      few = omega (arith, n, m, ap length o);
    }

each-nth : (ns : List ℕ) (i : ℕ) → i < length ns → Each (λ a. a ≤ 4) ns → nth_arity ns i ≤ 4
each-nth [] i l h = absurd (omega arith)
each-nth (a ∷ ns) zero l h = h.0
each-nth (a ∷ ns) (suc i) l h = each-nth ns i (omega arith) h.1

gather-same : (F G : ℕ → List Rule) (m : ℕ) → ((i : ℕ) → i < m → F (16 + i) ≡ G i) → (gs : List Fun) (j : ℕ) → j + length gs ≤ m → gather F (numbers_of (16 + j) gs) ≡ gather G (numbers j (length gs))
gather-same F G m h [] j l = refl
gather-same F G m h (g ∷ gs) j l =
    let z : suc (16 + j) ≡ 16 + suc j = omega arith in
    ap₂ ◌++◌ (h j (omega arith)) (ap (λ (i : ℕ). gather F (numbers_of i gs)) z ∙ gather-same F G m h gs (suc j) (omega arith))

-- THE OWN LIST of an accepted program, from its bytes, is that of the program that is read.
own_is : (x : Source) (s : Book) → read_program x.program.now ≡ good s → Agrees s.decls x.arities.now → exn_rules s.decls.exceptions ++ gather (rules_for x) (numbers 0 (length s.decls.arities)) ≡ own_list (program_of s)
unfolding rules_in
own_is x s e h = ap (exn_rules s.decls.exceptions ++◌)
    (sym (gather-same (fun_rules (fun_of fs)) (rules_for x) m same-rules fs 0 (omega (arith, length-funs 0 ns rs)) ∙ ap (λ (i : ℕ). gather (rules_for x) (numbers 0 i)) (length-funs 0 ns rs)))
  where
    ns : List ℕ
    ns = s.decls.arities

    rs : List RuleAt
    rs = s.rules_at

    fs : List Fun
    fs = funs_of 0 ns rs

    m : ℕ
    m = length ns

    same-fun : (i : ℕ) → i < m → fun_of fs (16 + i) ≡ fun_at x i
    same-fun i l =
        let y : 0 + i ≡ i = omega arith in
        declared-function fs i
        ∙ nth-fun 0 ns rs i l
        ∙ ap₂ (λ (a j : ℕ). record { arity = a; defs = defs_of j rs }) (sym (h.declared i l)) y
        ∙ ap (λ (xs : List RuleAt). record { arity = get_or x.arities.now (16 + i) 0; defs = defs_of i xs }) (sym (ap rules_of e))

    same-rules : (i : ℕ) → i < m → fun_rules (fun_of fs) (16 + i) ≡ rules_for x i
    same-rules i l = ap (λ (f : Fun). fun_rules (λ k. f) (16 + i)) (same-fun i l)

-- WHAT AN ACCEPTED PROGRAM GIVES: its rules stand at its openings, it is small, and its own list is that of the program read.
pub record Ready (x : Source) : Type 0 where
  pub listed : Listed x
  pub small : Small x
  pub list : (s : Book) → read_program x.program.now ≡ good s → stored_rules (own_in x) ≡ stored_rules (own_list (program_of s))

pub accepted-ready : (x : Source) → Accepted x → Ready x
accepted-ready x a =
    let s = a.book in
    let v = ((accepted-exactly x.program.now s).0 a.read).1.readable in
    let ns = s.decls.arities in
    let n = a.exceptions_read in
    let m = a.functions_read in
    let few = v.exceptions in
    let most = v.functions in
    record {
      listed = accepted-listed x s a.read a.agrees a.openings_read;
      small = record {
        exceptions = omega (arith, few, n);
        functions = omega (arith, most, m);
        arities = λ f l. (let low : f < length ns = omega (arith, l, m) in let e = a.agrees.declared f low in let c = each-nth ns f low v.arities in omega (arith, e, c));
      };
      list = λ t e.
          (let same : s ≡ t = (let z = sym a.read ∙ e in cc) in
          ap₂ (λ (i j : ℕ). stored_rules (exn_rules i ++ gather (rules_for x) (numbers 0 j))) n m ∙ ap stored_rules (own_is x s a.read a.agrees) ∙ ap (λ (b : Book). stored_rules (own_list (program_of b))) same);
    }

-- AN ACCEPTED QUESTION stands whole, and its words are those of the term that is read
pub record Asks (arities question : List ℕ) : Type 0 where
  pub whole : Whole (from arities question 0) 1
  pub small : count_of (from arities question 0) 1 ≤ 512
  pub count : count_of (from arities question 0) 1 ≡ length (words (tree (term_at arities question 0)))

pub asked-asks : (arities question : List ℕ) → Asked arities question → Asks arities question
asked-asks arities question a =
    let s = question-stands a.declared arities question a.term a.agrees a.read in
    record { whole = s.0; small = s.2; count = sym (term-count (from arities question 0) s.0) ∙ sym (length-words (tree (term_at arities question 0))) }
