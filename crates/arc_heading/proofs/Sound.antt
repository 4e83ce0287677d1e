-- What a sound heading is.
-- Assumes nothing.
use Prim.Native.Nat.{◌≤◌}
use mathlib.Core.Path.{◌≡◌}
use mathlib.Core.Bool.{true}
use Rattle.num_whole.specs.Answer.{given}
use Rattle.num_whole.specs.Lists.{all, ascend}
use Rattle.num_whole.proofs.Cases.{chosen, both_first, both_second, between_true, up_to_true}
use Rattle.arc_limits.specs.Limits.{settings_ok, label_ok, label_key, station_ok, station_key}
use Rattle.arc_heading.specs.Judge.{labels_of, stations_of, counts_ok, fields_ok, orders_ok, judged}
use Rattle.arc_heading.specs.declared.Heading.{Heading}

-- ---- a heading whose counts are allowed has them within the arrays
pub counts_fit_lem : (h : Heading) → counts_ok h ≡ true → (h.parameters ≤ 50) × (h.stations ≤ 16)
unfolding counts_ok
counts_fit_lem h e = ((between_true _ _ _ (both_first _ _ e)).1, up_to_true _ _ (both_second _ _ e))

-- ---- what a sound heading is
pub record Sound (h : Heading) : Type 0 where
  pub some : 1 ≤ h.parameters
  pub few : h.parameters ≤ 50
  pub seats : h.stations ≤ 16
  pub settings : settings_ok h.settings ≡ true
  pub labels : all label_ok (labels_of h) ≡ true
  pub stations : all station_ok (stations_of h) ≡ true
  pub labels_up : ascend label_key 0 (labels_of h) ≡ true
  pub stations_up : ascend station_key 0 (stations_of h) ≡ true

pub sound : (h : Heading) → judged h ≡ given tt → Sound h
unfolding judged counts_ok fields_ok orders_ok
sound h e =
    let a = chosen 2 _ _ e in
    let b = chosen 4 _ _ a.1 in
    let c = chosen 5 _ _ b.1 in
    let n = between_true _ _ _ (both_first _ _ a.0) in
    let f = both_second _ _ b.0 in
    record {
      some = n.0;
      few = n.1;
      seats = up_to_true _ _ (both_second _ _ a.0);
      settings = both_first _ _ b.0;
      labels = both_first _ _ f;
      stations = both_second _ _ f;
      labels_up = both_first _ _ c.0;
      stations_up = both_second _ _ c.0;
    }
