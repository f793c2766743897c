-- The ports of the compacted design: its inputs and its outputs, in record order, are those of the old one.
-- Assumes nothing.
use mathlib.Core.Path.{◌≡◌, refl, ap, ◌∙◌}
use mathlib.Core.Bool.{Bool, true, false}
use mathlib.Core.List.{List}
use Prim.Native.Nat.{ℕ, ◌<◌}
use Rattle.netlist.specs.Kinds.{is_input, is_output}
use Rattle.netlist.specs.Layout.{Design, role_at}
use Rattle.netlist.specs.Picked.{picked, rank_of}
use Rattle.netlist.specs.declared.record.Role.{Role}
use Rattle.netlist.specs.declared.record.Role.TheVariants.{Gate}
use Rattle.netlist.proofs.PickedLaws.{picked_of_picked}
use Rattle.netlist.proofs.RoleLaws.{new_role, new_input, new_output}
use Rattle.trim.specs.Trimmed.{trim_design}
use Rattle.compact.specs.Survivors.{is_port, with_blanks, blanked, survives}
use Rattle.compact.proofs.PartLaws.{PartOf, role_part}
use Rattle.compact.proofs.SurvivorLaws.{input_port, output_port, no_input, no_output, port_stays, surviving}

module _ (d : Design) (masks : List ℕ) (e : Design) (p : PartOf (survives d masks) (blanked d masks) e) where
  -- a test of roles that picks ports alone, and does not look at numbers
  module _ (f : Role → Bool) (port : (role : Role) → f role ≡ true → is_port role ≡ true) (none : (role : Role) → is_port role ≡ false → f role ≡ false)
      (new : (role : Role) → f (new_role (rank_of (survives d masks)) role) ≡ f role) (gate : f Gate ≡ false) where
    port_at : (i : ℕ) → i < d.count → survives d masks i ≡ true → f (role_at e (rank_of (survives d masks) i)) ≡ f (role_at d i)
    unfolding blanked with_blanks trim_design
    port_at i h t = ap f (role_part p i h t) ∙ new (role_at (blanked d masks) i) ∙ port_stays d masks i f gate (none (role_at d i))

    ports_picked : (words : ℕ → ℕ)
        → picked (λ i. f (role_at e i)) words e.count ≡ picked (λ i. f (role_at d i)) (λ i. words (rank_of (survives d masks) i)) d.count
    unfolding blanked with_blanks trim_design
    ports_picked words =
        ap (picked (λ i. f (role_at e i)) words) p.count
        ∙ picked_of_picked (survives d masks) (λ i. f (role_at d i)) (λ i. f (role_at e i)) words d.count
        (λ i h q. (surviving d masks).ports i h (port (role_at d i) q)) port_at

  pub input_at : (i : ℕ) → i < d.count → survives d masks i ≡ true → is_input (role_at e (rank_of (survives d masks) i)) ≡ is_input (role_at d i)
  input_at = port_at is_input input_port no_input (new_input (rank_of (survives d masks))) refl

  pub inputs_picked : (words : ℕ → ℕ)
      → picked (λ i. is_input (role_at e i)) words e.count ≡ picked (λ i. is_input (role_at d i)) (λ i. words (rank_of (survives d masks) i)) d.count
  inputs_picked = ports_picked is_input input_port no_input (new_input (rank_of (survives d masks))) refl

  pub outputs_picked : (words : ℕ → ℕ)
      → picked (λ i. is_output (role_at e i)) words e.count ≡ picked (λ i. is_output (role_at d i)) (λ i. words (rank_of (survives d masks) i)) d.count
  outputs_picked = ports_picked is_output output_port no_output (new_output (rank_of (survives d masks))) refl
