-- A line is read in one way.
use Rattle.std.proofs.Common.{◌≡◌, ℕ, ◌+◌, Bool, true, false, cond, List, Some, Ok, Err, Option, sym, refl, ap, ◌∙◌, ⊎_elim, arith}
use Rattle.std.proofs.lemmas.Bool.{both_ways}
use Rattle.trace_lines.specs.declared.commands.TextFault.TheVariants.{Form, Range}
use Rattle.trace_lines.specs.declared.commands.Setup.{Setup}
use Rattle.trace_lines.specs.declared.commands.Setup.TheVariants.{Route, Start}
use Rattle.trace_lines.specs.Grammar.{SetupForm, route, start, SetupLine, setup_in_range, SetupSays, CommandLine, command_in_range, CommandSays, Reads, ReadsSetup, ReadsCommand, Unambiguous}
use Rattle.trace_lines.specs.Forms.{command_form, setup_form, setup_of}
use Rattle.trace_lines.proofs.Written.{command_there}
use Rattle.trace_lines.proofs.Setups.{setup_there}

module _ {F C : Type 0} (Line : List ℕ → F → Type 0) (in_range : F → Bool) (Says : F → C → Type 0) (form : List ℕ → Option F) (say : F → C)
    (to : (s : List ℕ) (f : F) → Line s f → form s ≡ Some f) (says : (f : F) (c : C) → Says f c → c ≡ say f) where
  same_form : (s : List ℕ) (f g : F) → Line s f → Line s g → f ≡ g
  same_form s f g v w = let p = to s f v in let q = to s g w in cc

  one : Unambiguous (Reads Line in_range Says)
  one s (Ok c) (Ok d) v w =
      ap Ok (says v.1.0 c v.1.3 ∙ ap say (same_form s v.1.0 w.1.0 v.1.1 w.1.1) ∙ sym (says w.1.0 d w.1.3))
  one s (Ok c) (Err Range) v w =
      absurd (both_ways (in_range w.1.0) w.1.2 (ap in_range (same_form s w.1.0 v.1.0 w.1.1 v.1.1) ∙ v.1.2))
  one s (Ok c) (Err Form) v w = absurd (⊎_elim (λ h. omega (arith, h, v.0)) (λ n. n v.1.0 v.1.1) w)
  one s (Err Range) (Ok d) v w =
      absurd (both_ways (in_range v.1.0) v.1.2 (ap in_range (same_form s v.1.0 w.1.0 v.1.1 w.1.1) ∙ w.1.2))
  one s (Err Range) (Err Range) v w = refl
  one s (Err Range) (Err Form) v w = absurd (⊎_elim (λ h. omega (arith, h, v.0)) (λ n. n v.1.0 v.1.1) w)
  one s (Err Form) (Ok d) v w = absurd (⊎_elim (λ h. omega (arith, h, w.0)) (λ n. n w.1.0 w.1.1) v)
  one s (Err Form) (Err Range) v w = absurd (⊎_elim (λ h. omega (arith, h, w.0)) (λ n. n w.1.0 w.1.1) v)
  one s (Err Form) (Err Form) v w = refl

one_flags : (n : ℕ) (a b c : Bool)
    → Route n (record { head_handles = a; head_passes = b; root_handles = c }) ≡ setup_of (route n (cond a 1 0 + cond b 2 0 + cond c 4 0))
one_flags n true true true = refl
one_flags n true true false = refl
one_flags n true false true = refl
one_flags n true false false = refl
one_flags n false true true = refl
one_flags n false true false = refl
one_flags n false false true = refl
one_flags n false false false = refl

one_setup : (f : SetupForm) (c : Setup) → SetupSays f c → c ≡ setup_of f
one_setup (route n f) (Route line r) w =
    ap (λ n. Route n r) w.0 ∙ one_flags n r.head_handles r.head_passes r.root_handles ∙ ap (λ f. setup_of (route n f)) (sym w.1)
one_setup (route n f) Start w = absurd w
one_setup start (Route line r) w = absurd w
one_setup start Start w = refl

pub setup_one : Unambiguous ReadsSetup
setup_one = one SetupLine setup_in_range SetupSays setup_form setup_of setup_there one_setup

pub command_one : Unambiguous ReadsCommand
command_one = one CommandLine command_in_range CommandSays command_form (λ c. c) command_there (λ f c e. e)
