-- What a line of a trace came to, as it is listed.
use Rattle.std.proofs.Common.{◌≡◌, ℕ, List, Ok, Err, Result, ap, ◌∙◌, subst}
use Rattle.listing.specs.declared.listed.Listed.{Listed}
use Rattle.listing.specs.declared.listed.Refusal.{Refusal}
use Rattle.listing.specs.declared.listed.ShortBuffer.{ShortBuffer}
use Rattle.listing.specs.declared.listed.TraceFault.{TraceFault}
use Rattle.listing.specs.Refusals.{refusal_of}
use Rattle.listing.specs.Listing.{ListedAs, as_listed, WritesLine, WritesAs, Writes}

only_one : (r : Result Listed TraceFault) (l : Result Listed Refusal) → ListedAs (λ e x. x ≡ refusal_of e) r l → l ≡ as_listed r
only_one (Ok a) l h = h
only_one (Err e) l (x, d, h) = h ∙ ap Err d

-- a line written as its refusal is listed is the trace's own
pub writes_trace : (r : Result Listed TraceFault) (xs ys : List ℕ) (w : Result ℕ ShortBuffer) → WritesAs (λ e x. x ≡ refusal_of e) r xs w ys → Writes r xs w ys
writes_trace r xs ys w (l, a, h) = subst (λ l. WritesLine l xs w ys) (only_one r l a) h
