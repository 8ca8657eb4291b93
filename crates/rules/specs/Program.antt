-- A checked program and the lists that are lent for it.
use Rattle.std.specs.Prelude.{ℕ, ◌≤◌, ◌≡◌, List, get_or}
use Rattle.theory.specs.Syntax.{Program}
use Rattle.theory.specs.WellFormed.{ProgramWellFormed, NarrowDefs}
use Rattle.theory.specs.Words.{stored_rules}
use Rattle.theory.specs.Translation.{standing, own_list}

pub record Sound (P : Program) : Type 0 where
  pub few : P.exns ≤ 16
  pub formed : ProgramWellFormed P
  pub narrow : (k : ℕ) → NarrowDefs (P.fun k).arity (P.fun k).defs

pub record Lent (P : Program) (ks st own : List ℕ) : Type 0 where
  pub arities : (k : ℕ) → get_or ks k 0 ≡ (P.fun k).arity
  pub standing_list : st ≡ stored_rules (standing P.fun)
  pub own_is : own ≡ stored_rules (own_list P)
