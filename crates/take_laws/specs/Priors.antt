-- Demand 2, no prior in the sums: of two headings that differ in their labels alone, prior weights and estimates among them, each record gets the
-- same answer and the sums end the same.
use Rattle.std.specs.Prelude.{ℕ, ◌≡◌, List, ℤ}
use Rattle.arc_heading.specs.Judge.{stations_of}
use Rattle.arc_heading.specs.declared.Heading.{Heading}
use Rattle.take_laws.specs.Arc.{end_of, told_in}

pub record ButLabels (h k : Heading) : Type 0 where
  pub settings : h.settings ≡ k.settings
  pub parameters : h.parameters ≡ k.parameters
  pub stations : stations_of h ≡ stations_of k

pub record Priors (h k : Heading) (m r : List ℤ) : Type 0 where
  pub answers : (bs : List (List ℕ)) → told_in h m r bs ≡ told_in k m r bs
  pub ends : (bs : List (List ℕ)) → end_of h m r bs ≡ end_of k m r bs
