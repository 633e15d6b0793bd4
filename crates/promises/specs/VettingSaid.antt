-- What vetting answers, by the answer's number, place and values. From document 01, "Vetting": "Passes when loading does and [...]
-- Otherwise the first failure and its place."
use Rattle.std.specs.Prelude.{ℕ, ◌≡◌, ◌↔◌, List}
use Rattle.reads.specs.Said.{Said, refusal, says, refuses}
use Rattle.reads.specs.declared.Refusal.{Refusal}
use Rattle.tables.specs.Values.{record_values}
use Rattle.tables.specs.declared.Record.{Record}
use Rattle.load.specs.Load.{loaded, loaded_strictly}
use Rattle.load.specs.declared.Loaded.{Loaded}
use Rattle.vet.specs.Vet.{vetted, said_vetted}
use Rattle.promises.specs.Passing.{Passes}
use Rattle.promises.specs.Refusing.{Refuses}

module _ (s : List ℕ) where
  -- number, place and values of the answer
  abbrev pub vetting_said : Said
  vetting_said = said_vetted (vetted s)

  pub record VettingSays : Type 0 where
    -- the number is 0 exactly when the font passes, with some record
    pub passes_exactly : (vetting_said.number ≡ 0) ↔ ((rec : Record) × Passes s rec)
    -- and then the values are that record's
    pub passes_says : (rec : Record) → Passes s rec → vetting_said ≡ says (record_values rec)
    -- a font that loads is refused exactly for the first condition that fails, and with its place
    pub refused_exactly : (rec : Record) → loaded s ≡ Loaded.Font rec → (n place : ℕ) → (vetting_said ≡ refuses (refusal n place)) ↔ Refuses s rec n place
    -- a font that does not load strictly is refused as strict loading refuses it
    pub refused_loading : (r : Refusal) → loaded_strictly s ≡ Loaded.Refused r → vetting_said ≡ refuses r
