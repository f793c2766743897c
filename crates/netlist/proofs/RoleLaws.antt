-- Which role is an input's or an output's, and roles with new numbers for operands: which role is which stays.
-- Assumes nothing.
use mathlib.Core.Path.{◌≡◌, refl}
use mathlib.Core.Bool.{true}
use Prim.Native.Nat.{ℕ}
use Rattle.netlist.specs.Kinds.{is_input, is_output, is_held}
use Rattle.netlist.specs.declared.record.Role.{Role}
use Rattle.netlist.specs.declared.record.Role.TheVariants.{Input, Register, Output, Gate}

pub input_role : (role : Role) → is_input role ≡ true → role ≡ Input
input_role Input e = refl
input_role (Register a k) e = cc
input_role Output e = cc
input_role Gate e = cc

pub output_role : (role : Role) → is_output role ≡ true → role ≡ Output
output_role Input e = cc
output_role (Register a k) e = cc
output_role Output e = refl
output_role Gate e = cc

abbrev pub new_role : (ℕ → ℕ) → Role → Role
new_role new Input = Input
new_role new (Register a k) = Register (new a) k
new_role new Output = Output
new_role new Gate = Gate

pub new_input : (new : ℕ → ℕ) (role : Role) → is_input (new_role new role) ≡ is_input role
new_input new Input = refl
new_input new (Register a k) = refl
new_input new Output = refl
new_input new Gate = refl

pub new_output : (new : ℕ → ℕ) (role : Role) → is_output (new_role new role) ≡ is_output role
new_output new Input = refl
new_output new (Register a k) = refl
new_output new Output = refl
new_output new Gate = refl

pub new_held : (new : ℕ → ℕ) (role : Role) → is_held (new_role new role) ≡ is_held role
new_held new Input = refl
new_held new (Register a k) = refl
new_held new Output = refl
new_held new Gate = refl
