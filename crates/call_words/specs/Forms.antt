-- Rows and sorted words as the code holds them.
use Rattle.std.specs.Prelude.{List, map}
use Rattle.std.specs.Option.{option_map}
use Rattle.std.specs.Borrow.{Bor}
use Rattle.call_words.specs.Sorting as spec
use Rattle.call_words.specs.Sorting.{Bytes}
use Rattle.call_words.specs.Grammar.{Row}
use Rattle.call_words.specs.declared.grammar.Kind.{Kind}
use Rattle.call_words.specs.declared.grammar.OptionForm.{OptionForm}
use Rattle.call_words.specs.declared.grammar.Form.{Form}
use Rattle.call_words.specs.declared.sorting.Sorted.{Sorted}

-- the texts behind references
abbrev pub texts : List (Bor Bytes) → List Bytes
texts = map (λ s. s.now)

abbrev pub pairs : List (Bor Bytes × Bor Bytes) → List (Bytes × Bytes)
pairs = map (λ o. (o.0.now, o.1.now))

abbrev pub option_view : OptionForm → Bytes × Kind
option_view o = (o.name.now, o.kind)

abbrev pub view : Form → Row
view f = record {
  name = f.name.now;
  wanted = f.wanted.now;
  repeats = f.repeats;
  options = map option_view f.options.now;
  required = texts f.required.now;
}

abbrev pub sorted_view : Sorted → spec.Sorted
sorted_view s = record {
  others = texts s.others.items;
  given = pairs s.given.items;
  waiting = option_map (λ n. n.now) s.waiting;
}
