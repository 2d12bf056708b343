-- The form found of a line byte by byte is the one that the grammar gives it.
use Rattle.std.proofs.Common.{◌≡◌, ℕ, ◌-◌, ◌≤◌, Bool, true, cond, ◌&&◌, eqb, leb, List, [], ◌∷◌, ◌++◌, length, get_or, take, drop, Some, None, Ok, Err, Option, sym, refl, ap, ◌∙◌, subst, inr, ⊎_elim, arith}
use Rattle.std.specs.Option.{option_map}
use Rattle.std.proofs.lemmas.List.{take_all}
use Rattle.std.proofs.lemmas.Bool.{le-leb, and_parts, eqb-true, cond_both}
use Rattle.std.proofs.lemmas.Option.{none-some}
use Rattle.lines.specs.declared.line_set.LineSet.{LineSet}
use Rattle.model.specs.declared.calls.Kernel.{Kernel}
use Rattle.model.specs.declared.calls.Kernel.TheVariants.{Head, Root}
use Rattle.trace_lines.specs.declared.commands.TextFault.TheVariants.{Range}
use Rattle.trace_lines.specs.declared.commands.Command.{Command}
use Rattle.trace_lines.specs.declared.commands.Command.TheVariants.{Raise, MaskHardware, Mask, Pump, Next, Done, Stall, Unstall, SetLevel, RestoreLevel}
use Rattle.trace_lines.specs.Numerals.{numeral}
use Rattle.trace_lines.specs.Grammar.{kernel_name, CommandLine, command_in_range, Reads, ReadsCommand}
use Rattle.trace_lines.specs.Forms.{ranged, kernel_named, kernel_of, kernel_and_rest, argued, kernel_and, set_of, letter_form, command_form}
use Rattle.trace_lines.proofs.Options.{cond_some, cond_pick, mapped_some}

-- ---- a letter, a blank and the rest

abbrev after_blank : {X : Type 0} → (ℕ → List ℕ → Option X) → List ℕ → Option X
after_blank g s = cond (leb 2 (length s) && eqb (get_or s 1 0) 32) (g (get_or s 0 0) (take (length s - 2) (drop 2 s))) None

there : {X : Type 0} (g : ℕ → List ℕ → Option X) (c : ℕ) (l : List ℕ) → after_blank g (c ∷ 32 ∷ l) ≡ g c l
there g c l =
    ap (λ t. cond (t && true) (g c (take (length (c ∷ 32 ∷ l) - 2) l)) None) (le-leb 2 (length (c ∷ 32 ∷ l)) (omega arith))
    ∙ ap (g c) (take_all (length (c ∷ 32 ∷ l) - 2) l (omega arith))

back : {X : Type 0} (g : ℕ → List ℕ → Option X) (s : List ℕ) (x : X) → after_blank g s ≡ Some x
    → (c : ℕ) × (l : List ℕ) × (s ≡ c ∷ 32 ∷ l) × (g c l ≡ Some x)
back g [] x e = absurd (none-some x e)
back g (c ∷ []) x e = absurd (none-some x e)
back g (c ∷ b ∷ l) x e =
    let p = cond_some _ _ x e in (
      c,
      l,
      ap (λ b. c ∷ b ∷ l) (eqb-true b 32 (and_parts _ (eqb b 32) p.0).1),
      ap (g c) (sym (take_all (length (c ∷ b ∷ l) - 2) l (omega arith))) ∙ p.1,
    )

-- ---- the kernels

pub kernel_there : (k : Kernel) → kernel_of (kernel_name k) ≡ Some k
kernel_there Head = refl
kernel_there Root = refl

kernel_here : (d : ℕ) (k : Kernel) → kernel_of (d ∷ []) ≡ Some k → d ∷ [] ≡ kernel_name k
kernel_here d Head e =
    ⊎_elim (λ p. ap (λ d. d ∷ []) (eqb-true d 104 p.0))
    (λ q. let p = cond_some (eqb d 114) (Some Root) Head q in let z : ◌≡◌ {A = ℕ} 0 1 = cc p.1 in absurd (omega arith)) (cond_pick _ _ _ Head e)
kernel_here d Root e =
    ⊎_elim (λ p. let q : Some Head ≡ Some Root = p.1 in let z : ◌≡◌ {A = ℕ} 0 1 = cc q in absurd (omega arith))
    (λ q. ap (λ d. d ∷ []) (eqb-true d 114 (cond_some _ _ Root q).0)) (cond_pick (eqb d 104) (Some Head) _ Root e)

kernel_back : (s : List ℕ) (k : Kernel) → kernel_of s ≡ Some k → s ≡ kernel_name k
kernel_back [] k e = absurd (none-some k e)
kernel_back (d ∷ []) k e = kernel_here d k e
kernel_back (d ∷ c ∷ s) k e = absurd (none-some k e)

-- a kernel named by a letter, and the rest
abbrev first : ℕ → List ℕ → Option (Kernel × List ℕ)
first d s = option_map (λ k. (k, s)) (kernel_named d)

module _ {X Y : Type 0} (f : Kernel → X → Y) (read : List ℕ → Option X) where
  kernel_and_there : (k : Kernel) (l : List ℕ) (x : X) → read l ≡ Some x → kernel_and f read (kernel_name k ++ (32 ∷ l)) ≡ Some (f k x)
  kernel_and_there Head l x e = ap (argued f read) (there first 104 l) ∙ ap (option_map (f Head)) e
  kernel_and_there Root l x e = ap (argued f read) (there first 114 l) ∙ ap (option_map (f Root)) e

  argued_some : (o : Option (Kernel × List ℕ)) (y : Y) → argued f read o ≡ Some y
      → (k : Kernel) × (l : List ℕ) × (x : X) × (o ≡ Some (k, l)) × (read l ≡ Some x) × (f k x ≡ y)
  argued_some None y e = absurd (none-some y e)
  argued_some (Some p) y e = let q = mapped_some (f p.0) (read p.1) y e in (p.0, p.1, q.0, refl, q.1, q.2)

  kernel_and_back : (s : List ℕ) (y : Y) → kernel_and f read s ≡ Some y
      → (k : Kernel) × (l : List ℕ) × (x : X) × (read l ≡ Some x) × (s ≡ kernel_name k ++ (32 ∷ l)) × (f k x ≡ y)
  kernel_and_back s y e =
      let a = argued_some (kernel_and_rest s) y e in
      let p = back first s (a.0, a.1) a.3 in
      let q = mapped_some (λ (k : Kernel). (k, p.1)) (kernel_named p.0) (a.0, a.1) p.3 in
      let h : q.0 ≡ a.0 = ap (λ (t : Kernel × List ℕ). t.0) q.2 in
      let t : p.1 ≡ a.1 = ap (λ (t : Kernel × List ℕ). t.1) q.2 in
      (q.0, p.1, a.2, ap read t ∙ a.4, p.2 ∙ ap (λ t. t ++ (32 ∷ p.1)) (kernel_here p.0 q.0 q.1), ap (λ k. f k a.2) h ∙ a.5)

-- ---- the commands after the start

set_back : (s : List ℕ) (l : LineSet) → set_of s ≡ Some l → numeral 16 16 s ≡ Some l.bits
set_back s l e = let p = mapped_some _ (numeral 16 16 s) l e in p.1 ∙ ap (λ x. Some x.bits) p.2

set_there : (s : List ℕ) (l : LineSet) → numeral 16 16 s ≡ Some l.bits → set_of s ≡ Some l
set_there s l e = ap (option_map (λ n. record { bits = n })) e

pub command_there : (s : List ℕ) (c : Command) → CommandLine s c → command_form s ≡ Some c
command_there s (Raise n) w = ap command_form w.2 ∙ there letter_form 105 w.0 ∙ ap (option_map Raise) w.1
command_there s (MaskHardware lines) w =
    ap command_form w.2 ∙ there letter_form 109 w.0 ∙ ap (option_map MaskHardware) (set_there w.0 lines w.1)
command_there s (Mask k lines) w =
    ap command_form w.2 ∙ there letter_form 107 (kernel_name k ++ (32 ∷ w.0))
    ∙ kernel_and_there Mask set_of k w.0 lines (set_there w.0 lines w.1)
command_there s (Pump n) w = ap command_form w.2 ∙ there letter_form 112 w.0 ∙ ap (option_map Pump) w.1
command_there s (Next k) w = ap command_form w ∙ there letter_form 110 (kernel_name k) ∙ ap (option_map Next) (kernel_there k)
command_there s (Done k) w = ap command_form w ∙ there letter_form 100 (kernel_name k) ∙ ap (option_map Done) (kernel_there k)
command_there s (Stall k) w = ap command_form w ∙ there letter_form 115 (kernel_name k) ∙ ap (option_map Stall) (kernel_there k)
command_there s (Unstall k) w = ap command_form w ∙ there letter_form 117 (kernel_name k) ∙ ap (option_map Unstall) (kernel_there k)
command_there s (SetLevel k n) w =
    ap command_form w.2 ∙ there letter_form 118 (kernel_name k ++ (32 ∷ w.0)) ∙ kernel_and_there SetLevel (numeral 10 3) k w.0 n w.1
command_there s (RestoreLevel k) w = ap command_form w ∙ there letter_form 120 (kernel_name k) ∙ ap (option_map RestoreLevel) (kernel_there k)

-- a letter found is the letter of the line
module _ (c : ℕ) (l : List ℕ) (x : Command) where
  lettered : (d : ℕ) → eqb c d ≡ true → c ∷ 32 ∷ l ≡ d ∷ 32 ∷ l
  lettered d t = ap (λ c. c ∷ 32 ∷ l) (eqb-true c d t)

  -- letters with a kernel alone
  to_kernel : (d : ℕ) (f : Kernel → Command) → ((k : Kernel) → CommandLine (c ∷ 32 ∷ l) (f k) ≡ (c ∷ 32 ∷ l ≡ d ∷ 32 ∷ kernel_name k))
      → (eqb c d ≡ true) × (option_map f (kernel_of l) ≡ Some x) → CommandLine (c ∷ 32 ∷ l) x
  to_kernel d f row p =
      let q = mapped_some f (kernel_of l) x p.1 in
      let e : c ∷ 32 ∷ l ≡ d ∷ 32 ∷ kernel_name q.0 = lettered d p.0 ∙ ap (λ t. d ∷ 32 ∷ t) (kernel_back l q.0 q.1) in
      subst (CommandLine (c ∷ 32 ∷ l)) q.2 (subst (λ T. T) (sym (row q.0)) e)

  to_raise : (eqb c 105 ≡ true) × (option_map Raise (numeral 10 3 l) ≡ Some x) → CommandLine (c ∷ 32 ∷ l) x
  to_raise p = let q = mapped_some Raise (numeral 10 3 l) x p.1 in subst (CommandLine (c ∷ 32 ∷ l)) q.2 (l, q.1, lettered 105 p.0)

  to_pump : (eqb c 112 ≡ true) × (option_map Pump (numeral 10 3 l) ≡ Some x) → CommandLine (c ∷ 32 ∷ l) x
  to_pump p = let q = mapped_some Pump (numeral 10 3 l) x p.1 in subst (CommandLine (c ∷ 32 ∷ l)) q.2 (l, q.1, lettered 112 p.0)

  to_mask_hardware : (eqb c 109 ≡ true) × (option_map MaskHardware (set_of l) ≡ Some x) → CommandLine (c ∷ 32 ∷ l) x
  to_mask_hardware p =
      let q = mapped_some MaskHardware (set_of l) x p.1 in
      subst (CommandLine (c ∷ 32 ∷ l)) q.2 (l, set_back l q.0 q.1, lettered 109 p.0)

  to_mask : (eqb c 107 ≡ true) × (kernel_and Mask set_of l ≡ Some x) → CommandLine (c ∷ 32 ∷ l) x
  to_mask p =
      let q = kernel_and_back Mask set_of l x p.1 in
      subst (CommandLine (c ∷ 32 ∷ l)) q.5 (q.1, set_back q.1 q.2 q.3, lettered 107 p.0 ∙ ap (λ t. 107 ∷ 32 ∷ t) q.4)

  to_set_level : (eqb c 118 ≡ true) × (kernel_and SetLevel (numeral 10 3) l ≡ Some x) → CommandLine (c ∷ 32 ∷ l) x
  to_set_level p =
      let q = kernel_and_back SetLevel (numeral 10 3) l x p.1 in
      subst (CommandLine (c ∷ 32 ∷ l)) q.5 (q.1, q.3, lettered 118 p.0 ∙ ap (λ t. 118 ∷ 32 ∷ t) q.4)

  letter_back : letter_form c l ≡ Some x → CommandLine (c ∷ 32 ∷ l) x
  letter_back e₀ =
      ⊎_elim to_raise (λ e₁.
      ⊎_elim to_mask_hardware (λ e₂.
      ⊎_elim to_mask (λ e₃.
      ⊎_elim to_pump (λ e₄.
      ⊎_elim (to_kernel 110 Next (λ k. refl)) (λ e₅.
      ⊎_elim (to_kernel 100 Done (λ k. refl)) (λ e₆.
      ⊎_elim (to_kernel 115 Stall (λ k. refl)) (λ e₇.
      ⊎_elim (to_kernel 117 Unstall (λ k. refl)) (λ e₈.
      ⊎_elim to_set_level (λ e₉.
      to_kernel 120 RestoreLevel (λ k. refl) (cond_some _ _ x e₉))
      (cond_pick _ _ _ x e₈)) (cond_pick _ _ _ x e₇)) (cond_pick _ _ _ x e₆)) (cond_pick _ _ _ x e₅)) (cond_pick _ _ _ x e₄))
      (cond_pick _ _ _ x e₃)) (cond_pick _ _ _ x e₂)) (cond_pick _ _ _ x e₁)) (cond_pick _ _ _ x e₀)

pub command_back : (s : List ℕ) (c : Command) → command_form s ≡ Some c → CommandLine s c
command_back s c e =
    let p = back letter_form s c e in subst (λ t. CommandLine t c) (sym p.2) (letter_back p.0 p.1 c p.3)

-- ---- reading

module _ {F : Type 0} (Line : List ℕ → F → Type 0) (in_range : F → Bool) (form : List ℕ → Option F) (to : (s : List ℕ) (f : F) → Line s f → form s ≡ Some f)
    (from : (s : List ℕ) (f : F) → form s ≡ Some f → Line s f) where
  reads_form : (s : List ℕ) → length s ≤ 80 → (o : Option F) → form s ≡ o → Reads Line in_range (λ f g. g ≡ f) s (ranged in_range o)
  reads_form s h None e = inr (λ f w. none-some f (sym e ∙ to s f w))
  reads_form s h (Some f) e =
      cond_both (in_range f) (Ok f) (Err Range) (Reads Line in_range (λ f g. g ≡ f) s)
      (λ t. (h, (f, from s f e, t, refl)))
      (λ t. (h, (f, from s f e, t)))

  pub reads_ranged : (s : List ℕ) → length s ≤ 80 → Reads Line in_range (λ f g. g ≡ f) s (ranged in_range (form s))
  reads_ranged s h = reads_form s h (form s) refl

pub reads_command : (s : List ℕ) → length s ≤ 80 → ReadsCommand s (ranged command_in_range (command_form s))
reads_command = reads_ranged CommandLine command_in_range command_form command_there command_back
