-- A part of each station in an array: what `map` gives; and the first of them.
-- Assumes nothing.
use Rattle.std.proofs.Common.{◌≡◌, ◌∙◌, ℕ, zero, suc, ◌<◌, List, [], ◌∷◌, map, length, get_or, take, refl, sym, ap, arith}
use Rattle.std.proofs.lemmas.List.{ext_get_or, length-map}
use Rattle.std.proofs.Math.ListN.{get_or-map}
use Rattle.std.specs.Array.{IsMapOf}
use Rattle.std.specs.Fn.{Called}
use denote.Param.Members.{Mut}
use Rattle.arc_limits.specs.declared.Station.{Station}

pub mapped : {F A B : Type 0} {g : Mut F (A × Unit {0}) B} {f : F} (h : A → B) (d : A) (xs : List A) {ys : List B} {n : ℕ}
    → ((p : F) (x : A) (y : B) (q : F) → Called g p (x, tt) y q → y ≡ h x) → length xs ≡ n → IsMapOf g f xs ys n → ys ≡ map h xs
mapped h d xs told long m =
    ext_get_or (h d) _ _ (m.long ∙ sym long ∙ sym (length-map xs h))
    (λ i l. told _ _ _ _ (m.at i d (h d) (omega (arith, m.long))).2 ∙ sym (get_or-map h xs i d))

-- the first of them are those of the first stations
pub take_copied : {A : Type 0} (g : Station → A) (n : ℕ) (l : List Station) → take n (map g l) ≡ map g (take n l)
take_copied g zero l = refl
take_copied g (suc n) [] = refl
take_copied g (suc n) (x ∷ l) = ap (λ r. g x ∷ r) (take_copied g n l)
