use Rattle.std.proofs.Common.{ap, sym, ◌∙◌, ◌-◌, refl, arith, length, take, drop, get_or}
use Rattle.std.specs.List.{before_first}
use Rattle.std.specs.Option.{option_map}
use Rattle.iddqd_text.proofs.Numbering.{number_from, is_space, field_goes_on, field_told, field_spells_none, pushed_fits}
use Rattle.iddqd_text.proofs.numbers.first_number.Goals as goal

pub loop-rest-preserved : goal.loop-rest-preserved
loop-rest-preserved c =
    let on = field_goes_on c.loop-rest.rest.now (take (length c.loop-rest.rest.now - 1) (drop 1 c.loop-rest.rest.now)) c.in-len1-up.len_at_least refl c.if-b-eq32.false in
    record {
      told = field_told c.loop-rest.rest.now (take (length c.loop-rest.rest.now - 1) (drop 1 c.loop-rest.rest.now)) c.loop-rest.value c.in_ok-value.value
          (number_from 0 (before_first is_space c.args.fields.now))
          c.in-len1-up.len_at_least refl c.if-b-eq32.false (sym c.push_digit.ensures ∙ c.in_ok-value.was) c.loop-rest.invariant.told;
      fits = pushed_fits c.loop-rest.value (get_or c.loop-rest.rest.now 0 0) c.in_ok-value.value (sym c.push_digit.ensures ∙ c.in_ok-value.was);
      left = sym on.3 ∙ c.loop-rest.invariant.left;
      begun = omega (arith, on.0, on.1, c.loop-rest.invariant.begun);
    }

pub returns-in_err-value-clause-number : goal.returns-in_err-value-clause-number
returns-in_err-value-clause-number c =
    ap (λ r. option_map (λ found. found.0) r) c.from_residual.ensures
    ∙ sym (field_spells_none c.args.fields.now c.loop-rest.rest.now (take (length c.loop-rest.rest.now - 1) (drop 1 c.loop-rest.rest.now)) c.loop-rest.value
    c.in-len1-up.len_at_least refl c.if-b-eq32.false (sym c.push_digit.ensures ∙ c.in_err-value.was) c.loop-rest.invariant.told)
