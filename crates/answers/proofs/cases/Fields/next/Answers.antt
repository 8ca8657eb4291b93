-- `Fields::next` meets its contract.
use Rattle.std.proofs.Common.{◌≡◌, List, ℕ, Bor, Option, Some, suc, option_map, sym, ap, ◌∙◌}
use Rattle.answers.specs.Fields.{field_in}
use Rattle.answers.proofs.Fields.{no_field, field_on, last_field, field_here}
use Rattle.answers.proofs.cases.Fields.next.Goals as goal

pub returns-in-None-clause-field : goal.returns-in-None-clause-field
returns-in-None-clause-field c =
    let e : c.args.self.now.rest ≡ Some c.in_ok-rest.rest = sym c.take.ensures.value ∙ c.in_ok-rest.was in
    sym (ap (λ (o : Option (Bor (List ℕ))). field_in 0 (option_map (λ r. r.now) o)) e ∙ last_field _ (sym c.space_in.ensures.value ∙ c.in-None.is))

pub returns-in-None-clause-later : goal.returns-in-None-clause-later
returns-in-None-clause-later c n =
    let e : c.args.self.now.rest ≡ Some c.in_ok-rest.rest = sym c.take.ensures.value ∙ c.in_ok-rest.was in
    ap (λ (o : Option (Bor (List ℕ))). field_in n (option_map (λ r. r.now) o)) c.take.ensures.after ∙ sym (ap (λ (o : Option (Bor (List ℕ))). field_in (suc n) (option_map (λ r. r.now) o)) e ∙ no_field n _ (sym c.space_in.ensures.value ∙ c.in-None.is))

pub returns-in-Some-clause-field : goal.returns-in-Some-clause-field
returns-in-Some-clause-field c =
    let e : c.args.self.now.rest ≡ Some c.in_ok-rest.rest = sym c.take.ensures.value ∙ c.in_ok-rest.was in
    sym (ap (λ (o : Option (Bor (List ℕ))). field_in 0 (option_map (λ r. r.now) o)) e ∙ field_here _ _ (sym c.space_in.ensures.value ∙ c.in-Some.is))

pub returns-in-Some-clause-later : goal.returns-in-Some-clause-later
returns-in-Some-clause-later c n =
    let e : c.args.self.now.rest ≡ Some c.in_ok-rest.rest = sym c.take.ensures.value ∙ c.in_ok-rest.was in
    sym (ap (λ (o : Option (Bor (List ℕ))). field_in (suc n) (option_map (λ r. r.now) o)) e ∙ field_on n _ _ (sym c.space_in.ensures.value ∙ c.in-Some.is) ∙ sym (ap (λ l. field_in n (Some l)) c.behind.ensures))
