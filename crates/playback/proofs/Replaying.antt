-- A trace played whole is a run of the machine from a fresh start.
use Rattle.std.proofs.Common.{◌≡◌, ℕ, Bool, true, false, List, [], ◌∷◌, ◌++◌, replicate, Ok, Err, Result, sym, refl, ap, ◌∙◌, subst, subst₂, append_assoc, append-nil}
use Rattle.std.proofs.lemmas.Bool.{both_ways}
use Rattle.lines.specs.Sets.{Within}
use Rattle.levels.specs.declared.BsdLevel.TheVariants.{None as lowest_level}
use Rattle.bank.specs.Contents.{all_lines}
use Rattle.pair8259.specs.Pair.{pair_lines}
use Rattle.model.specs.declared.calls.Kernel.TheVariants.{Head as head, Root as root}
use Rattle.model.specs.Machine.{MachineModel, Routes}
use Rattle.model.specs.Run.{Entry, Run, Fresh, Routable}
use Rattle.model.proofs.Runs.{promises_kept}
use Rattle.routes.specs.declared.Route.{Route as RouteOf}
use Rattle.machine.specs.Routing.{CanHandle}
use Rattle.machine.proofs.Laid.{none_within, common_right, flag_within}
use Rattle.trace_lines.specs.declared.commands.Setup.{Setup}
use Rattle.trace_lines.specs.declared.commands.Setup.TheVariants.{Route, Start}
use Rattle.trace_lines.specs.Cut.{lines_of}
use Rattle.listing.specs.declared.listed.Listed.{Listed}
use Rattle.listing.specs.declared.listed.Listed.TheVariants.{Accepted, Answered, Restored}
use Rattle.listing.specs.declared.listed.TraceFault.{TraceFault}
use Rattle.listing.specs.declared.listed.TraceFault.TheVariants.{Text, Machine, Saved}
use Rattle.trace.specs.Lines.{Traced, with_routes, reroute, Reroutes, SetsUp, PlaysSetup, Plays}
use Rattle.cabinet.specs.Fresh.{cabinet}
use Rattle.trace.specs.declared.saved.Saved.{Saved as SavedLevels}
use Rattle.playback.specs.States.{CabinetSession, state, IsLaidOut, at_first}
use Rattle.playback.specs.Traces.{LineMakes, PlaysAll, PlaysLines, started_from, Replays}
use Rattle.playback.proofs.Playing.{run_joined, run_routes}

-- the lines that the kernels handle are lines of their stages
record Fit (m : MachineModel) (r : Routes) : Type 0 where
  at_head : Within (r.handles head) (m.stage head).own.lines
  at_root : Within (r.handles root) (m.stage root).own.lines

routable : (m : MachineModel) (r : Routes) → Fit m r → Routable (with_routes m r)
routable m r f head n x = f.at_head n x
routable m r f root n x = f.at_root n (common_right (r.passes head) (r.handles root) n x)

fresh : (m : MachineModel) (r : Routes) → Fresh m → Fresh (with_routes m r)
fresh m r f = record { at_hardware = f.at_hardware; at_stage = f.at_stage; lowest = f.lowest; unstalled = f.unstalled }

-- the machine n was reached from m by the calls h: none before the start
record Reached (m : MachineModel) (on : Bool) (n : MachineModel) (h : List Entry) : Type 0 where
  fits : Fit m n.routes
  ran : Run (with_routes m n.routes) h n
  none : on ≡ false → h ≡ []

reroutes : (m n n' : MachineModel) (k : ℕ) (x : RouteOf) (r : Result Listed TraceFault) → Fit m n.routes → n ≡ with_routes m n.routes → Reroutes n k x r n'
    → Fit m n'.routes × (n' ≡ with_routes m n'.routes)
reroutes m n n' k x (Ok Accepted) f e p =
    let q = p.1 in
    let r = reroute n.routes k x in (
      subst (λ y. Fit m y.routes) (sym q)
          (record {
            at_head = flag_within (n.routes.handles head) k (m.stage head).own.lines x.head_handles f.at_head (subst (λ y. CanHandle (y.stage head).own.lines k x.head_handles) e p.0.1);
            at_root = flag_within (n.routes.handles root) k (m.stage root).own.lines x.root_handles f.at_root (subst (λ y. CanHandle (y.stage root).own.lines k x.root_handles) e p.0.2);
          }),
      q ∙ ap (λ y. with_routes y r) e ∙ ap (λ y. with_routes m y.routes) (sym q),
    )
reroutes m n n' k x (Ok (Answered a)) f e p = absurd p
reroutes m n n' k x (Ok (Restored c)) f e p = absurd p
reroutes m n n' k x (Err (Text d)) f e p = absurd p
reroutes m n n' k x (Err (Machine d)) f e p = (subst (λ y. Fit m y.routes) (sym p.1) f, subst (λ y. y ≡ with_routes m y.routes) (sym p.1) e)
reroutes m n n' k x (Err (Saved d j)) f e p = absurd p

sets_up : (m n n' : MachineModel) (c : Setup) (r : Result Listed TraceFault) (on : Bool) → Fit m n.routes → n ≡ with_routes m n.routes → SetsUp n c r on n'
    → Fit m n'.routes × (n' ≡ with_routes m n'.routes)
sets_up m n n' (Route k x) r on f e p = reroutes m n n' k x r f e p.1
sets_up m n n' Start r on f e p = (subst (λ y. Fit m y.routes) (sym p.2) f, subst (λ y. y ≡ with_routes m y.routes) (sym p.2) e)

setup_line : (m n n' : MachineModel) (l : List ℕ) (r : Result Listed TraceFault) (on : Bool) → Fit m n.routes → n ≡ with_routes m n.routes → PlaysSetup n l r on n'
    → Fit m n'.routes × (n' ≡ with_routes m n'.routes)
setup_line m n n' l r on f e (Ok c, p, w) = sets_up m n n' c r on f e w
setup_line m n n' l r on f e (Err d, p, w) = (subst (λ y. Fit m y.routes) (sym w.2) f, subst (λ y. y ≡ with_routes m y.routes) (sym w.2) e)

one_line : (m : MachineModel) (on on' : Bool) (s s' : Traced) (l : List ℕ) (r : Result Listed TraceFault) (g h : List Entry) → Reached m on s.machine g → Plays on s l r on' s'
    → LineMakes on s.machine l r h s'.machine → Reached m on' s'.machine (g ++ h)
one_line m false on' s s' l r g h a p w =
    let e : s.machine ≡ with_routes m s.machine.routes = subst (λ z. Run (with_routes m s.machine.routes) z s.machine) (a.none refl) a.ran in
    let (x, y) = setup_line m s.machine s'.machine l r on' a.fits e p.0 in
    let z : g ++ h ≡ [] = ap (λ k. k ++ h) (a.none refl) ∙ w in
    record { fits = x; ran = subst (λ k. Run (with_routes m s'.machine.routes) k s'.machine) (sym z) y; none = λ _. z }
one_line m true on' s s' l r g h a p w =
    let e : s'.machine.routes ≡ s.machine.routes = run_routes s.machine s'.machine h w.3 in
    record {
      fits = subst (Fit m) (sym e) a.fits;
      ran = subst (λ x. Run (with_routes m x) (g ++ h) s'.machine) (sym e) (run_joined (with_routes m s.machine.routes) s.machine s'.machine g h a.ran w.3);
      none = λ f. absurd (both_ways on' f p.0);
    }

each_line : (m : MachineModel) (on on' : Bool) (s s' : Traced) (ls : List (List ℕ)) (rs : List (Result Listed TraceFault)) (g h : List Entry) → Reached m on s.machine g
    → PlaysAll on s ls rs h on' s' → Reached m on' s'.machine (g ++ h)
each_line m on on' s s' [] [] g h a (e, p, q) =
    subst (Reached m on' s'.machine) (sym (append-nil g) ∙ ap (λ z. g ++ z) (sym e)) (subst₂ (λ o y. Reached m o y.machine g) (sym p) (sym q) a)
each_line m on on' s s' [] (r ∷ rs) g h a p = absurd p
each_line m on on' s s' (l ∷ ls) [] g h a p = absurd p
each_line m on on' s s' (l ∷ ls) (r ∷ rs) g h a (o, x, h₀, h₁, pl, mk, rest, e) =
    subst (Reached m on' s'.machine) (append_assoc g h₀ h₁ ∙ ap (λ y. g ++ y) (sym e))
    (each_line m o on' x s' ls rs (g ++ h₀) h₁ (one_line m on o s x l r g h₀ a pl mk) rest)

pub replays : (s : Traced) (trace listing : List ℕ) (on : Bool) (s' : Traced) → Fresh s.machine → Within (s.machine.routes.handles head) (s.machine.stage head).own.lines
    → Within (s.machine.routes.handles root) (s.machine.stage root).own.lines → PlaysLines false s (lines_of trace) [] on s' listing → Replays s trace listing
replays s trace listing on s' f a b p =
    let m = s.machine in
    let start : Reached m false m [] = record { fits = record { at_head = a; at_root = b }; ran = refl; none = λ _. refl } in
    let reached = each_line m false on s s' (lines_of trace) p.results [] p.made start p.plays in
    let fresh_start = fresh m s'.machine.routes f in
    let routes_fit = routable m s'.machine.routes reached.fits in
    record {
      results = p.results;
      made = p.made;
      started = on;
      left = s';
      plays = p.plays;
      lists = p.lists;
      fresh = fresh_start;
      routable = routes_fit;
      promises = promises_kept (started_from m s'.machine) s'.machine p.made fresh_start routes_fit reached.ran;
    }

-- ---- the cabinet's machine

pub replays_from_first : (on on' : Bool) (s s' : Traced) (trace xs listing : List ℕ) → on ≡ false → s ≡ at_first → xs ≡ [] → Fresh cabinet
    → PlaysLines on s (lines_of trace) xs on' s' listing → Replays at_first trace listing
replays_from_first on on' s s' trace xs listing a b e f p =
    replays at_first trace listing on' s' f (none_within all_lines) (common_right pair_lines all_lines)
    (subst (λ z. PlaysLines false at_first (lines_of trace) z on' s' listing) e (subst₂ (λ o z. PlaysLines o z (lines_of trace) xs on' s' listing) a b p))

pub is_first : (s : CabinetSession) (w : SavedLevels) → IsLaidOut s → w.head.places.now ≡ replicate 16 (record { 0 = 0 }) → w.head.used ≡ 0
    → w.root.places.now ≡ replicate 16 lowest_level → w.root.used ≡ 0 → state s w ≡ at_first
is_first s w l p u q v =
    λ i. record { machine = l.machine i; at_head = record { places = p i; used = u i }; at_root = record { places = q i; used = v i } }
