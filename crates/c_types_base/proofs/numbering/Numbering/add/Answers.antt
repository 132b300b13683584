use Rattle.std.proofs.Common.{rules, ◌≡◌, ◌+◌, is_some, true, None, refl}
use Rattle.std.proofs.lemmas.Map.Text.{hash_map_updates_str}
use Rattle.c_types_base.specs.Numbering.{number_in}
use Rattle.c_types_base.proofs.NumberingLemmas.{added_new, added_again}
use Rattle.c_types_base.proofs.numbering.Numbering.add.Goals as goal

pub returns-then-is_some : goal.returns-then-is_some
returns-then-is_some c = λ names is.
    let next : c.in_ok-next.next ≡ c.args.self.now.count + 1 = search rules in
    let there : is_some (number_in c.args.self.now c.args.name.now) ≡ true = search rules in
    added_again names c.args.name.now c.args.self.now _ is next there (λ q. refl)

pub returns : goal.returns
returns c = λ names is.
    let next : c.in_ok-next.next ≡ c.args.self.now.count + 1 = search rules in
    let gone : number_in c.args.self.now c.args.name.now ≡ None = search rules in
    added_new names c.args.name.now c.args.self.now _ is next gone
    (hash_map_updates_str c.args.name.now c.args.self.now.entries c.insert.new.self _ c.in_ok-insert.ensures.updates)
