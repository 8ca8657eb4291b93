-- The loop that writes terms record by record: its invariant, and that a turn keeps it.
use mathlib.Core.Path.{◌≡◌, refl, sym, ap, ◌∙◌, subst}
use mathlib.Core.Bool.{Bool, true, false}
use mathlib.Core.List.{List, [], ◌∷◌, ◌++◌, append_assoc, append-nil}
use Prim.Native.Nat.{ℕ, zero, suc, ◌+◌, ◌-◌, ◌≤◌, ◌<◌}
use native.Mathlib.Omega.{arith}
use lib.Dec.{eqb}
use Rattle.std.proofs.Common.{Option, Some, None}
use Rattle.std.proofs.lemmas.List.{set-get_or}
use lib.ListN.{length, get_or, set, length-set}
use lib.Seq.{get_or-set_same, get_or-set_other}
use Rattle.theory.specs.Words.{all_words}
use Rattle.theory.specs.Translation.{trees}
use Rattle.theory.specs.Bytes.{TermRecord, record_parts, first_terms}
use Rattle.theory.proofs.SidesRefuse.{record-counts}
use Rattle.theory.proofs.Tests.{eq-of-eqb, ne-of-eqb}
use Rattle.generated.specs.declared.writing.Writer.{Writer}
use Rattle.generated.specs.Wrote.{Room, Wrote}
use Rattle.generated.proofs.Writes.{wrote_none, wrote_as, wrote_then, room_as, room-first, room-then}
use Rattle.term_words.specs.declared.roots.Root.{Root}
use Rattle.term_words.specs.Records.{record_bytes, Whole, count_of, from, terms_at, Passed}
use Rattle.term_words.specs.Roots.{term_record_at, root_at, root_words, exception_words, words_of}
use Rattle.term_words.specs.Late.{Clear}
use Rattle.term_words.proofs.Laws.{whole-first, record-there, root-handles}
use Rattle.term_words.proofs.Count.{Going, going_start, going-turn, going_end}
use Rattle.term_words.proofs.Late.{out, out_none, out-set, out-all, out-record}

-- each term has a word at least
whole-count : (ks : List TermRecord) (n : ℕ) → Whole ks n → n ≤ count_of ks n
whole-count [] zero h = omega arith
whole-count [] (suc n) h = absurd h
whole-count (k ∷ ks) zero h = omega arith
whole-count (k ∷ ks) (suc n) h = omega (arith, whole-count ks (record_parts k + n) h, record-counts k)

-- The loop: n terms from p on are written, from the writer u on. `owed` of them, or of their parts, are still to come, from the place `next`
-- on; v is the writer past what is written.
pub record Putting (arities bytes : List ℕ) (p n : ℕ) (u : Writer) (owed next : ℕ) (late : List (Option ℕ)) (v : Writer) : Type 0 where
  pub done : List ℕ
  pub count : ℕ
  pub going : Going arities bytes p n owed next count
  pub clear : Clear late owed
  pub slots : count_of (from arities bytes p) n < length late
  pub wrote : Wrote done u v
  pub all : all_words (trees (first_terms n (terms_at arities bytes p))) ≡ done ++ out (from arities bytes next) owed late

pub putting-start : (arities bytes : List ℕ) (p n : ℕ) (u : Writer) (late : List (Option ℕ)) → p ≤ length bytes → Whole (from arities bytes p) n → count_of (from arities bytes p) n < length late → Clear late 0
    → Putting arities bytes p n u n p late u
putting-start arities bytes p n u late h w s c =
    record {
      done = [];
      count = 0;
      going = going_start arities bytes p n h w;
      clear = record { none = λ j k. c.none j (omega arith) };
      slots = s;
      wrote = wrote_none u;
      all = sym (out-all (from arities bytes p) n late c w);
    }

pub putting-end : {arities bytes : List ℕ} {p n next : ℕ} {u v : Writer} {late : List (Option ℕ)} → Putting arities bytes p n u 0 next late v
    → Passed arities bytes p n next × Wrote (all_words (trees (first_terms n (terms_at arities bytes p)))) u v
putting-end {arities} {bytes} {p} {n} {next} {u} {v} {late} g = (
  (going_end arities bytes p n next g.count g.going).0,
  wrote_as (sym (g.all ∙ ap (g.done ++◌) (out_none (from arities bytes next) late) ∙ append-nil g.done)) g.wrote,
)

-- one turn of it, at the root r
module _ {arities bytes : List ℕ} {p n : ℕ} {u : Writer} {owed next : ℕ} {late : List (Option ℕ)} {v : Writer} (g : Putting arities bytes p n u owed next late v) (more : 0 < owed) (r : Root) (read : r ≡ root_at arities bytes next) where
  abbrev pub owes : ℕ
  owes = owed - 1 + r.parts

  abbrev pub keeps : List (Option ℕ)
  keeps = set late owed r.handled

  pub turned : Going arities bytes p n owes r.next (g.count + words_of r)
  turned = going-turn arities bytes p n owed next g.count r g.going more read

  pub owed-inside : owed < length late
  owed-inside = omega (arith, whole-count (from arities bytes next) owed g.going.whole, g.going.words, g.slots)

  pub keeps-inside : owes < length keeps
  keeps-inside = omega (arith, whole-count (from arities bytes r.next) owes turned.whole, turned.words, g.slots, length-set late owed r.handled)

  abbrev Read : Root → Type 0
  Read x =
      out (from arities bytes next) owed late
      ≡ root_words x.word x.raised ++ (exception_words (get_or (set late owed x.handled) (owed - 1 + x.parts) None) ++ out (from arities bytes x.next) (owed - 1 + x.parts) (set late owed x.handled))

  out-read : Read r
  out-read =
      subst Read (sym read)
      (out-record (term_record_at arities bytes next) (from arities bytes (next + record_bytes (term_record_at arities bytes next))) (from arities bytes next) owed late
      (record-there arities bytes next (whole-first arities bytes next owed more g.going.whole)) more g.going.whole g.clear owed-inside)

  abbrev rest : List ℕ
  rest = out (from arities bytes r.next) owes keeps

  -- nothing is kept from there on
  clear-turn : Clear (set keeps owes None) owes
  clear-turn = record { none = λ j h. each j h (eqb j owes) refl }
    where
      high : (j : ℕ) → owes < j → (x : Option ℕ) → r.handled ≡ x → get_or keeps j None ≡ None
      high j h (Some x) e = get_or-set_other late owed j r.handled None (λ q. omega (arith, root-handles arities bytes next r read x e, h, q)) ∙ g.clear.none j (omega (arith, h))
      high j h None e = ap (λ (l : List (Option ℕ)). get_or l j None) (ap (set late owed) (e ∙ sym (g.clear.none owed (omega arith))) ∙ set-get_or late owed None) ∙ g.clear.none j (omega arith)

      each : (j : ℕ) → owes ≤ j → (b : Bool) → eqb j owes ≡ b → get_or (set keeps owes None) j None ≡ None
      each j h true e = subst (λ (i : ℕ). get_or (set keeps owes None) i None ≡ None) (sym (eq-of-eqb j owes e)) (get_or-set_same keeps owes None None keeps-inside)
      each j h false e =
          let other = ne-of-eqb j owes e in
          get_or-set_other keeps owes j None None other ∙ high j (omega (arith, h, other)) r.handled refl

  -- there is room for the root's words
  module _ (fits : Room (all_words (trees (first_terms n (terms_at arities bytes p)))) u) where
    room-owed : Room (root_words r.word r.raised ++ (exception_words (get_or keeps owes None) ++ rest)) v
    room-owed = room_as v out-read (room-then g.done (out (from arities bytes next) owed late) g.wrote (room_as u g.all fits))

    pub room-root : Room (root_words r.word r.raised) v
    room-root = room-first (root_words r.word r.raised) (exception_words (get_or keeps owes None) ++ rest) v room-owed

  -- and behind them for what is kept for as many terms as are owed then
  module _ {b : Writer} (w : Wrote (root_words r.word r.raised) v b) where
    pub room-late : Room (all_words (trees (first_terms n (terms_at arities bytes p)))) u → Room (exception_words (get_or keeps owes None)) b
    room-late fits = room-first (exception_words (get_or keeps owes None)) rest b (room-then (root_words r.word r.raised) (exception_words (get_or keeps owes None) ++ rest) w (room-owed fits))

    pub putting-turn : {v' : Writer} → Wrote (exception_words (get_or keeps owes None)) b v' → Putting arities bytes p n u owes r.next (set keeps owes None) v' × (length (set keeps owes None) ≡ length late)
    putting-turn {v'} x =
        let root = root_words r.word r.raised in
        let now = exception_words (get_or keeps owes None) in
        let then = out (from arities bytes r.next) owes (set keeps owes None) in
        let same : length (set keeps owes None) ≡ length late = length-set keeps owes None ∙ length-set late owed r.handled in (
          record {
            done = g.done ++ (root ++ now);
            count = g.count + words_of r;
            going = turned;
            clear = clear-turn;
            slots = omega (arith, g.slots, same);
            wrote = wrote_then g.wrote (wrote_then w x);
            all = g.all
                ∙ ap (g.done ++◌) (out-read ∙ ap (λ (x : List ℕ). root ++ (now ++ x)) (sym (out-set (from arities bytes r.next) owes owes None keeps (omega arith))) ∙ sym (append_assoc root now then))
                ∙ sym (append_assoc g.done (root ++ now) then);
          },
          same,
        )
