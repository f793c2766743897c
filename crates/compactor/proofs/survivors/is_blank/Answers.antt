-- `compactor::survivors::is_blank` meets its contract: the mask is not 0, or the role decides.
-- Assumes nothing.
use mathlib.Core.Path.{sym, ap, ◌∙◌}
use mathlib.Core.Bool.{Bool, not, ◌&&◌}
use native.Mathlib.Omega.{arith}
use borrow.Author.Tests.{eq-eqb, ne_eqb}
use Rattle.netlist.specs.Layout.{design_of, role_at}
use Rattle.care.specs.Least.{mask_at}
use Rattle.compact.specs.Survivors.{is_port, is_blank}
use Rattle.compactor.proofs.survivors.is_blank.Goals as goal

pub returns-then-list-i-ne0 : goal.returns-then-list-i-ne0
unfolding is_blank
returns-then-list-i-ne0 c = let args = c.args in
    let port = is_port (role_at (design_of args.file.now) args.i) in
    sym (ap (λ (b : Bool). b && not port) (ne_eqb (mask_at args.list.now args.i) 0 (λ q. let t = c.if-list-i-ne0.true in omega arith)))

pub returns : goal.returns
unfolding is_blank
returns c = let args = c.args in
    let port = is_port (role_at (design_of args.file.now) args.i) in
    ap not (c.is_port.ensures ∙ ap is_port c.role_at.ensures)
    ∙ sym (ap (λ (b : Bool). b && not port) (eq-eqb (mask_at args.list.now args.i) 0 (let t = c.if-list-i-ne0.false in omega arith)))
