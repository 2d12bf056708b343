-- The first line of a text, by its whole lines and the one that has begun.
use Rattle.std.proofs.Common.{◌≡◌, ℕ, ◌<◌, false, eqb, List, [], ◌∷◌, ◌++◌, length, Some, None, Option, sym, ap, ◌∙◌, ap₂, arith, length-drop}
use Rattle.std.specs.Option.{MatchOption, option_or}
use Rattle.std.proofs.lemmas.Bool.{eqb-false}
use Rattle.std.proofs.lemmas.List.{drop_all}
use Rattle.trace_lines.specs.Cut.{last_line, FirstLine, FirstWholeLine, NoWholeLine}
use Rattle.trace_lines.proofs.Cutting.{lines_are}

pub first_whole_line : (s line rest : List ℕ) → FirstWholeLine s line rest → FirstLine s line rest
first_whole_line s line rest h =
    record {
      lines = lines_are s ∙ ap₂ (λ ls u. ls ++ last_line u) h.lines h.begins ∙ ap (λ ls. line ∷ ls) (sym (lines_are rest));
      after = h.after;
      shorter = rw h.after (simp length-drop (omega (arith, h.within)));
    }

pub only_line : (s : List ℕ) → 0 < length s → NoWholeLine s → FirstLine s s []
only_line [] h n = absurd (omega arith)
only_line (c ∷ s) h n =
    record {
      lines = lines_are (c ∷ s) ∙ ap₂ (λ ls u. ls ++ last_line u) n.lines n.begins;
      after = sym (drop_all _ (c ∷ s) (omega arith));
      shorter = omega arith;
    }

module _ (s : List ℕ) {C : Type 0} (line rest : C → List ℕ) where
  pub whole_or_only : (o : Option C) (whole : C) → eqb (length s) 0 ≡ false → MatchOption o (NoWholeLine s) (λ cut. FirstWholeLine s (line cut) (rest cut)) → line whole ≡ s → rest whole ≡ []
      → MatchOption (option_or o (Some whole)) (length s ≡ 0) (λ cut. FirstLine s (line cut) (rest cut))
  whole_or_only None whole h m p q = let f : length s ≡ 0 → ⊥ = eqb-false (length s) 0 h in rw (p, q) (only_line s (omega (arith, f)) m)
  whole_or_only (Some cut) whole h m p q = first_whole_line s (line cut) (rest cut) m
