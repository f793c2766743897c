-- Which records survive compacting, and what each is then, but for its number. The sentences are those of #107.
-- Assumes nothing.
use Rattle.std.specs.Prelude.{◌≡◌, Bool, true, false, cond, not, ◌&&◌, ◌||◌, List, ℕ, ◌<◌, eqb}
use Rattle.netlist.specs.Kinds.{is_input, is_output, names}
use Rattle.netlist.specs.Layout.{Design, role_at}
use Rattle.netlist.specs.Lowest.{lowest}
use Rattle.netlist.specs.declared.record.Kind.TheVariants.{Constant}
use Rattle.netlist.specs.declared.record.Record.{Record}
use Rattle.netlist.specs.declared.record.Role.{Role}
use Rattle.care.specs.Least.{mask_at}
use Rattle.trim.specs.Trimmed.{trim_design}

-- "Inputs and outputs": the ports of a design.
abbrev pub is_port : Role → Bool
is_port role = is_input role || is_output role

-- A record "with mask 0 that is neither input nor output".
unfoldable pub is_blank : Design → List ℕ → ℕ → Bool
is_blank d masks i = eqb (mask_at masks i) 0 && not (is_port (role_at d i))

-- It "becomes a constant of its width with k and keep word 0, naming nothing".
abbrev pub blank : ℕ → Record
blank w = record { kind = Constant 0; width = w; keep = 0 }

-- A design with such a constant in the place of each record that a test picks.
unfoldable pub with_blanks : (ℕ → Bool) → Design → Design
with_blanks test d = record { count = d.count; at = λ i. cond (test i) (blank (d.at i).width) (d.at i) }

-- What each record becomes if it survives: "Others carry their trimmed keep words."
unfoldable pub blanked : Design → List ℕ → Design
blanked d masks = with_blanks (is_blank d masks) (trim_design d masks)

-- "Inputs and outputs survive. .. Whatever any other survivor names survives too": what is said of the set of all survivors.
pub record Surviving (d : Design) (masks : List ℕ) (set : ℕ → Bool) : Type 0 where
  pub ports : (i : ℕ) → i < d.count → is_port (role_at d i) ≡ true → set i ≡ true
  pub named : (i j : ℕ) → i < d.count → set i ≡ true → is_blank d masks i ≡ false → names (d.at i).kind j ≡ true → set j ≡ true

-- "and nothing else does"
pub record Survivors (d : Design) (masks : List ℕ) (set : ℕ → Bool) : Type 0 where
  pub surviving : Surviving d masks set
  pub least : (other : ℕ → Bool) → Surviving d masks other → (i : ℕ) → i < d.count → set i ≡ true → other i ≡ true

-- Whether one of the first n records of a design names record j.
abbrev pub is_named : Design → ℕ → ℕ → Bool
is_named d n j = lowest (λ i. names (d.at i).kind j) (λ i. true) false n

-- Who survives. A record whose mask is not 0 does, since something that survives asks for it, so no chain of names has to be followed:
-- `survivors` proves that this is the set of the sentences above.
unfoldable pub survives : Design → List ℕ → ℕ → Bool
survives d masks j = not (is_blank d masks j) || is_named (blanked d masks) d.count j
