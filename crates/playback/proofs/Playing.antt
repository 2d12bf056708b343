-- Lines played one after another, and the calls that they make.
use Rattle.std.proofs.Common.{◌≡◌, ℕ, ◌≤◌, Bool, true, false, List, [], ◌∷◌, ◌++◌, length, take, drop, Ok, Err, Option, Result, sym, refl, ap, ◌∙◌, subst, subst₂, append_assoc, append-nil, arith, length-append}
use Rattle.std.proofs.lemmas.List.{take_at}
use Rattle.spl.specs.Head.{head_code, head_named}
use Rattle.spl.specs.Root.{root_code, root_named}
use Rattle.model.specs.declared.calls.Kernel.{Kernel}
use Rattle.model.specs.declared.calls.Kernel.TheVariants.{Head as head, Root as root}
use Rattle.model.specs.declared.calls.StageCall.TheVariants as stage_call
use Rattle.model.specs.declared.calls.Call.{Call}
use Rattle.model.specs.declared.calls.Call.TheVariants as call
use Rattle.model.specs.declared.calls.Answer.TheVariants as answer
use Rattle.model.specs.Machine.{MachineModel}
use Rattle.model.specs.Run.{Entry, Run}
use Rattle.model.proofs.Turns.{step_routes}
use Rattle.trace_lines.specs.declared.commands.Command.{Command}
use Rattle.trace_lines.specs.declared.commands.Command.TheVariants.{Raise, MaskHardware, Mask, Pump, Next, Done, Stall, Unstall, SetLevel, RestoreLevel}
use Rattle.listing.specs.declared.listed.Listed.{Listed}
use Rattle.listing.specs.declared.listed.Listed.TheVariants.{Accepted, Answered, Restored}
use Rattle.listing.specs.declared.listed.ShortBuffer.{ShortBuffer}
use Rattle.listing.specs.Listing.{line}
use Rattle.listing.specs.declared.listed.TraceFault.{TraceFault}
use Rattle.listing.specs.declared.listed.TraceFault.TheVariants.{Text, Machine, Saved}
use Rattle.trace.specs.Calls.{Levels, Called, Saves, Restores}
use Rattle.trace.specs.Lines.{Traced, Obeys, PlaysCommand, Plays, Steps}
use Rattle.playback.specs.Traces.{one_call, CalledOnce, LevelSet, LevelRestored, Makes, LineMakes, PlaysAll, listing_of, PlaysLines}

-- ---- runs

pub run_joined : (a b c : MachineModel) (g h : List Entry) → Run a g b → Run b h c → Run a (g ++ h) c
run_joined a b c [] h e r = subst (λ x. Run x h c) e r
run_joined a b c (d ∷ g) h (m, t, r) q = (m, t, run_joined m b c g h r q)

pub run_routes : (a b : MachineModel) (h : List Entry) → Run a h b → b.routes ≡ a.routes
run_routes a b [] e = ap (λ x. x.routes) e
run_routes a b (d ∷ h) (m, t, r) = run_routes m b h r ∙ step_routes a m d.call d.answer t

-- ---- the calls of a command

called : (m m' : MachineModel) (c : Call) (r : Result Listed TraceFault) → Called m c r m' → (h : List Entry) × CalledOnce c r h × Run m h m'
called m m' c (Ok Accepted) s = absurd s
called m m' c (Ok (Answered a)) s = (one_call c (Ok a), refl, (m', s, refl))
called m m' c (Ok (Restored n)) s = absurd s
called m m' c (Err (Text e)) s = absurd s
called m m' c (Err (Machine e)) s = (one_call c (Err e), refl, (m', s, refl))
called m m' c (Err (Saved e k)) s = absurd s

module _ {L : Type 0} (named : ℕ → Option L) (codes : L → Option ℕ) (k : Kernel) (m m' : MachineModel) (s s' : Levels L) where
  saves : (c : ℕ) (r : Result Listed TraceFault) → Saves named codes k c m s r m' s' → (h : List Entry) × LevelSet k c r h × Run m h m'
  saves c (Ok Accepted) p = absurd p
  saves c (Ok (Answered a)) p = (one_call (call.To k (stage_call.SetLevel c)) (Ok a), refl, (m', p.3, refl))
  saves c (Ok (Restored n)) p = absurd p
  saves c (Err (Text e)) p = absurd p
  saves c (Err (Machine e)) p = ([], refl, p.2)
  saves c (Err (Saved e j)) p = ([], refl, p.4)

  restores : (r : Result Listed TraceFault) → Restores codes k m s r m' s' → (h : List Entry) × LevelRestored k r h × Run m h m'
  restores (Ok Accepted) p = absurd p
  restores (Ok (Answered a)) p = absurd p
  restores (Ok (Restored c)) p = (one_call (call.To k (stage_call.SetLevel c)) (Ok (answer.WasAtLevel p.1)), (p.1, refl), (m', p.4, refl))
  restores (Err (Text e)) p = absurd p
  restores (Err (Machine e)) p = ([], refl, p.4)
  restores (Err (Saved e j)) p = ([], refl, p.3)

obeys : (s s' : Traced) (c : Command) (r : Result Listed TraceFault) → Obeys s c r s' → (h : List Entry) × Makes c r h × Run s.machine h s'.machine
obeys s s' (Raise n) r p = called s.machine s'.machine (call.Raise n) r p.0
obeys s s' (MaskHardware x) r p = called s.machine s'.machine (call.MaskHardware x) r p.0
obeys s s' (Mask k x) r p = called s.machine s'.machine (call.To k (stage_call.Mask x)) r p.0
obeys s s' (Pump n) r p = called s.machine s'.machine (call.Pump n) r p.0
obeys s s' (Next k) r p = called s.machine s'.machine (call.Next k) r p.0
obeys s s' (Done k) r p = called s.machine s'.machine (call.To k stage_call.Done) r p.0
obeys s s' (Stall k) r p = called s.machine s'.machine (call.To k stage_call.Stall) r p.0
obeys s s' (Unstall k) r p = called s.machine s'.machine (call.To k stage_call.Unstall) r p.0
obeys s s' (SetLevel head c) r p = saves head_named head_code head s.machine s'.machine s.at_head s'.at_head c r p.0
obeys s s' (SetLevel root c) r p = saves root_named root_code root s.machine s'.machine s.at_root s'.at_root c r p.0
obeys s s' (RestoreLevel head) r p = restores head_named head_code head s.machine s'.machine s.at_head s'.at_head r p.0
obeys s s' (RestoreLevel root) r p = restores root_named root_code root s.machine s'.machine s.at_root s'.at_root r p.0

command_makes : (s s' : Traced) (l : List ℕ) (r : Result Listed TraceFault) → PlaysCommand s l r s' → (h : List Entry) × LineMakes true s.machine l r h s'.machine
command_makes s s' l r (Ok c, p, w) = let (h, x, y) = obeys s s' c r w in (h, (Ok c, p, x, y))
command_makes s s' l r (Err e, p, w) = ([], (Err e, p, refl, ap (λ x. x.machine) w.1))

line_makes : (on on' : Bool) (s s' : Traced) (l : List ℕ) (r : Result Listed TraceFault) → Plays on s l r on' s' → (h : List Entry) × LineMakes on s.machine l r h s'.machine
line_makes false on' s s' l r p = ([], refl)
line_makes true on' s s' l r p = command_makes s s' l r p.1

-- ---- lines one after another

pub plays_none : (on : Bool) (s : Traced) (xs : List ℕ) → PlaysLines on s [] xs on s xs
plays_none on s xs = record { results = []; made = []; plays = (refl, refl, refl); lists = sym (append-nil xs) }

pub plays_one : (on on₁ : Bool) (s s₁ : Traced) (xs ys l : List ℕ) (r : Result Listed TraceFault) → Plays on s l r on₁ s₁ → ys ≡ xs ++ line r
    → PlaysLines on s (l ∷ []) xs on₁ s₁ ys
plays_one on on₁ s s₁ xs ys l r q e =
    let (g, w) = line_makes on on₁ s s₁ l r q in
    record {
      results = r ∷ [];
      made = g;
      plays = (on₁, s₁, g, [], q, w, (refl, refl, refl), sym (append-nil g));
      lists = e ∙ ap (λ x. xs ++ x) (sym (append-nil (line r)));
    }

joined_lines : (on on₁ on₂ : Bool) (s s₁ s₂ : Traced) (ls ms : List (List ℕ)) (rs qs : List (Result Listed TraceFault)) (h g : List Entry)
    → PlaysAll on s ls rs h on₁ s₁ → PlaysAll on₁ s₁ ms qs g on₂ s₂ → PlaysAll on s (ls ++ ms) (rs ++ qs) (h ++ g) on₂ s₂
joined_lines on on₁ on₂ s s₁ s₂ [] ms [] qs h g (e, a, b) q =
    subst (λ x. PlaysAll on s ms qs (x ++ g) on₂ s₂) (sym e) (subst₂ (λ o x. PlaysAll o x ms qs g on₂ s₂) a b q)
joined_lines on on₁ on₂ s s₁ s₂ [] ms (d ∷ rs) qs h g p q = absurd p
joined_lines on on₁ on₂ s s₁ s₂ (k ∷ ls) ms [] qs h g p q = absurd p
joined_lines on on₁ on₂ s s₁ s₂ (k ∷ ls) ms (d ∷ rs) qs h g (o, x, h₀, h₁, pl, mk, rest, e) q =
    (o, x, h₀, h₁ ++ g, pl, mk, joined_lines o on₁ on₂ x s₁ s₂ ls ms rs qs h₁ g rest q, ap (λ y. y ++ g) e ∙ append_assoc h₀ h₁ g)

listing_joined : (rs qs : List (Result Listed TraceFault)) → listing_of (rs ++ qs) ≡ listing_of rs ++ listing_of qs
listing_joined [] qs = refl
listing_joined (d ∷ rs) qs = ap (λ x. line d ++ x) (listing_joined rs qs) ∙ sym (append_assoc (line d) (listing_of rs) (listing_of qs))

pub plays_joined : (on on₁ on₂ : Bool) (s s₁ s₂ : Traced) (ls ms : List (List ℕ)) (xs ys zs : List ℕ)
    → PlaysLines on s ls xs on₁ s₁ ys → PlaysLines on₁ s₁ ms ys on₂ s₂ zs → PlaysLines on s (ls ++ ms) xs on₂ s₂ zs
plays_joined on on₁ on₂ s s₁ s₂ ls ms xs ys zs p q =
    record {
      results = p.results ++ q.results;
      made = p.made ++ q.made;
      plays = joined_lines on on₁ on₂ s s₁ s₂ ls ms p.results q.results p.made q.made p.plays q.plays;
      lists =
          q.lists ∙ ap (λ x. x ++ listing_of q.results) p.lists ∙ append_assoc xs (listing_of p.results) (listing_of q.results)
          ∙ ap (λ x. xs ++ x) (sym (listing_joined p.results q.results));
    }

-- ---- a step

-- the bytes that a step has written are the line's
pub steps_lists : (on on' : Bool) (s s' : Traced) (l xs ys : List ℕ) (w : Result ℕ ShortBuffer) (n : ℕ) → w ≡ Ok n → Steps on s l xs w on' s' ys
    → (n ≤ length ys) × ((r : Result Listed TraceFault) × Plays on s l r on' s' × (take n ys ≡ line r))
steps_lists on on' s s' l xs ys (Ok k) n e (h, (r, p, f, q)) =
    let z : k ≡ n = cc in
    (omega (arith, ap length q, length-append (line r) (drop k xs)), (r, p, ap (take n) q ∙ take_at (line r) (drop k xs) n (sym f ∙ z)))
steps_lists on on' s s' l xs ys (Err d) n e p = let z : ◌≡◌ {A = ℕ} 0 1 = cc in absurd (omega arith)
