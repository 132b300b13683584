use Rattle.std.proofs.Common.{List, map, Option, Some, refl, sym, ap, ◌∙◌}
use Rattle.std.specs.Option.{option_map}
use Rattle.c_meaning.specs.declared.value.Value.{Value}
use Rattle.c_meaning.specs.Acts.{printed_all}
use Rattle.c_meaning.specs.Formats.{pieces_of, converted, written}
use Rattle.c_meaning.specs.Values.{tested}
use Rattle.c_memory.specs.Lists.{items_of}
use Rattle.c_acts.specs.declared.makings.Made.{Made as Making}
use Rattle.c_acts.specs.Formats.{shown_numbers}
use Rattle.c_acts.specs.Makings.{seen}
use Rattle.c_acts.proofs.ActLemmas.{made_printed}
use Rattle.c_acts.proofs.acts.printed.Goals as goal

pub returns-in_ok-values-in-Some : goal.returns-in_ok-values-in-Some
returns-in_ok-values-in-Some c =
    let f = c.in_ok-values-in-Some.field-0 in
    let format = c.args.format.now in
    let mk : Making = record { values = f.values; output = f.output; change = c.none.result } in
    ap Some
    (made_printed mk format c.in-Some.values.items c.none.result
    (c.in_ok-values-in-Some.ensures.values ∙ ap (λ (vs : List Value). shown_numbers (converted (pieces_of format) (map tested vs))) c.as_slice.ensures.value)
    (c.in_ok-values-in-Some.ensures.output ∙ ap (λ (vs : List Value). written (pieces_of format) (converted (pieces_of format) (map tested vs))) c.as_slice.ensures.value)
    refl c.none.ensures)
    ∙ ap (λ (o : Option (List Value)). option_map seen (option_map (printed_all format) o)) (sym (ap (option_map items_of) c.in-Some.is) ∙ c.in_ok-values.ensures)
