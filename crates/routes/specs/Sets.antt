-- Routes as sets of lines.
use Rattle.std.specs.Prelude.{Bool, cond, ℕ}
use Rattle.lines.specs.Sets.{common, minus, only, with_line}
use Rattle.model.specs.declared.calls.Kernel.{Kernel}
use Rattle.model.specs.declared.calls.Kernel.TheVariants.{Head as head, Root as root}
use Rattle.model.specs.Machine as model
use Rattle.routes.specs.declared.Route.{Route}
use Rattle.routes.specs.declared.Routes.{Routes}

-- one for each kernel
abbrev pub by_kernel : {X : Type 0} → X → X → Kernel → X
by_kernel a b head = a
by_kernel a b root = b

-- the lines that the head handles, those that it passes on, and those that the root handles
abbrev pub routes : ℕ → ℕ → ℕ → model.Routes
routes handled passed served = record { handles = by_kernel handled served; passes = by_kernel passed 0 }

abbrev pub routes_of : Routes → model.Routes
routes_of r = routes r.head_handles.bits r.head_passes.bits r.root_handles.bits

-- without a route the head only passes a line on, and the root handles it exactly if its stage has the line
abbrev pub default_routes : ℕ → ℕ → model.Routes
default_routes lines at_root = routes 0 lines (common lines at_root)

-- the set with line n if the flag is set, else without it
abbrev pub with_flag : ℕ → ℕ → Bool → ℕ
with_flag s n b = cond b (with_line 64 s n) (minus s (only n))

-- the routes with that of line n set anew
abbrev pub rerouted : Routes → ℕ → Route → model.Routes
rerouted r n x =
    routes (with_flag r.head_handles.bits n x.head_handles) (with_flag r.head_passes.bits n x.head_passes) (with_flag r.root_handles.bits n x.root_handles)
