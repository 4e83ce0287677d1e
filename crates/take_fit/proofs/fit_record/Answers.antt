-- `take_fit::fit_record` meets its contract: the station, the type, then the rest.
use Rattle.std.proofs.Common.{rules, arith, ◌≡◌, refl, sym, ap, ◌∙◌, Err}
use Rattle.refusal.specs.Told.{told}
use mir.Syntax.{w32}
use mir.ValLaws.{to_z-of_z}
use Rattle.num_whole.specs.Answer.{refused}
use Rattle.take_laws.specs.Taking.{frame}
use Rattle.take_fit.proofs.Steps.{found_inside, row_found, row_none, station_is, type_is, no_station_lem, no_type}
use Rattle.take_fit.proofs.fit_record.Goals as goal

pub offset_bounds-corrections-place : goal.offset_bounds-corrections-place
offset_bounds-corrections-place c =
    let h = found_inside _ _ _ _ (sym c.find.ensures ∙ ap told c.in_ok-place.was) in let w = c.requires.numbers_in_bounds in search rules

pub bounds-corrections-place : goal.bounds-corrections-place
bounds-corrections-place c = omega (arith, found_inside _ _ _ _ (sym c.find.ensures ∙ ap told c.in_ok-place.was), c.requires.numbers_in_bounds)

pub fit_listed-requires : goal.fit_listed-requires
fit_listed-requires c = (c.requires.settings_value, (row_found _ _ (sym (ap told c.in_ok-row.was) ∙ c.row_of.ensures)).0)

pub returns-in_err-place : goal.returns-in_err-place
returns-in_err-place c p b e =
    let a = c.args in
    let f = frame a.settings p a.numbers.now a.corrections.now in
    let stopped : c.from_residual.result ≡ Err c.in_err-place.field-0.0 = search rules in
    ap told stopped ∙ no_station_lem f b _ (sym (station_is f b a.r e) ∙ sym c.find.ensures ∙ ap told c.in_err-place.was)

pub returns-in_err-row : goal.returns-in_err-row
returns-in_err-row c p b e =
    let a = c.args in
    let f = frame a.settings p a.numbers.now a.corrections.now in
    let stopped : c.from_residual-in_err-row.result ≡ Err c.in_err-row.field-0.0 = search rules in
    let k = row_none _ c.in_err-row.field-0.0 (sym (ap told c.in_err-row.was) ∙ c.row_of.ensures) in
    ap told stopped ∙ ap refused k.1
    ∙ no_type f b _ (sym (station_is f b a.r e) ∙ sym c.find.ensures ∙ ap told c.in_ok-place.was) (sym (type_is f b a.r e) ∙ k.0)

pub returns : goal.returns
returns c p b e =
    let a = c.args in
    let f = frame a.settings p a.numbers.now a.corrections.now in
    let k = row_found _ _ (sym (ap told c.in_ok-row.was) ∙ c.row_of.ensures) in
    c.fit_listed.ensures f b refl (sym (station_is f b a.r e) ∙ sym c.find.ensures ∙ ap told c.in_ok-place.was) (sym (to_z-of_z w32 _ (search rules))) k.1 e
