-- What the setting of a route answers and leaves.
use Rattle.std.specs.Prelude.{◌≡◌, ℕ, Bool, true, false, ◌⊎◌, Ok, Err, Result}
use Rattle.lines.specs.Sets.{has}
use Rattle.controller.specs.declared.fault.ControllerFault.TheVariants.{NoSuchLine}
use Rattle.model.specs.declared.calls.Kernel.TheVariants.{Head as head, Root as root}
use Rattle.model.specs.declared.calls.Place.TheVariants.{Hardware as hardware, Kernel as kernel}
use Rattle.model.specs.declared.fault.Fault.TheVariants.{Controller, NotAtStage}
use Rattle.model.specs.declared.fault.MachineFault.{MachineFault}
use Rattle.routes.specs.declared.Route.{Route}
use Rattle.routes.specs.declared.Routes.{Routes}
use Rattle.routes.specs.Sets.{routes_of, rerouted}

-- a kernel whose stage has these lines can be let to handle line n if the flag says so
abbrev pub CanHandle : ℕ → ℕ → Bool → Type 0
CanHandle lines n flag = flag ≡ true → has lines n ≡ true

-- what the setting of a route answers: refused are a line that the hardware lacks, and one that a kernel is let to handle though its stage lacks it, the head first
abbrev pub Routed : ℕ → ℕ → ℕ → ℕ → Route → Result (Unit {0}) MachineFault → Type 0
Routed lines at_head at_root n x (Ok a) = (has lines n ≡ true) × CanHandle at_head n x.head_handles × CanHandle at_root n x.root_handles
Routed lines at_head at_root n x (Err e) =
    ((has lines n ≡ false) × (e ≡ record { fault = Controller NoSuchLine; place = hardware }))
    ⊎ ((has lines n ≡ true) × (CanHandle at_head n x.head_handles → ⊥) × (e ≡ record { fault = NotAtStage; place = kernel head }))
    ⊎ ((has lines n ≡ true) × CanHandle at_head n x.head_handles × (CanHandle at_root n x.root_handles → ⊥) × (e ≡ record { fault = NotAtStage; place = kernel root }))

-- and what it leaves: an accepted one counts from now on, a refused one changes nothing
abbrev pub LeavesRoutes : Routes → ℕ → Route → Result (Unit {0}) MachineFault → Routes → Type 0
LeavesRoutes r n x (Ok a) s = routes_of s ≡ rerouted r n x
LeavesRoutes r n x (Err e) s = s ≡ r
