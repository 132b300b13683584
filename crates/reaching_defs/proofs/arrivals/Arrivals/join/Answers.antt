use Rattle.std.proofs.Common.{true, subst}
use Rattle.bit_rows.specs.Tables.{IsSized, IsGrown}
use Rattle.reaching_defs.specs.declared.arrivals.Arrivals.{Arrivals}
use Rattle.reaching_defs.proofs.ArrivalLemmas.{IsJoined, fits_clean, fits_width, joined_all, joined_gained, told}
use Rattle.reaching_defs.proofs.arrivals.Arrivals.join.Goals as goal

pub join_words-grows-requires-clause-at_most : goal.join_words-grows-requires-clause-at_most
join_words-grows-requires-clause-at_most c = fits_width c.args.self.now.rows.bits c.args.words.now c.requires.fits

pub join_words-grows-requires-clause-clean : goal.join_words-grows-requires-clause-clean
join_words-grows-requires-clause-clean c = fits_clean c.args.self.now.rows.bits c.args.words.now c.requires.fits

pub returns-then-grows-clause-gained : goal.returns-then-grows-clause-gained
returns-then-grows-clause-gained c =
    let w = c.args.w in
    let words = c.args.words.now in
    let old = c.args.self.now in
    let r = c.requires.roomy in
    let new : Arrivals = record { rows = c.join_words-grows.new.self; reached = c.add-then-grows.new.self; grown = c.add.new.self } in
    let e = c.join_words-grows.ensures in
    let joined : IsJoined w words old new true = record {
      rows_are = e.joined;
      grows = subst (λ b. IsGrown old.rows new.rows b) c.if-grows.true e.grown;
      sized = subst (λ n. IsSized n old.rows.bits new.rows) r.sized.rows_are e.size;
      reached_bound = c.add-then-grows.ensures.bound;
      grown_bound = c.add.ensures.bound;
      reached_are = λ u. told (c.add-then-grows.ensures.exact u);
      grown_are = λ u. told (c.add.ensures.exact u);
    } in
    joined_gained w words old new r c.requires.inside c.requires.fits true joined

pub returns-then-grows-clause-all : goal.returns-then-grows-clause-all
returns-then-grows-clause-all c =
    let old = c.args.self.now in
    joined_all old.reached.bound old.rows.bits old.rows c.join_words-grows.new.self c.args.w c.args.words.now c.requires.roomy.sized c.requires.inside c.requires.fits c.join_words-grows.ensures.joined

pub returns-else-grows-clause-all : goal.returns-else-grows-clause-all
returns-else-grows-clause-all c =
    let old = c.args.self.now in
    joined_all old.reached.bound old.rows.bits old.rows c.join_words-grows.new.self c.args.w c.args.words.now c.requires.roomy.sized c.requires.inside c.requires.fits c.join_words-grows.ensures.joined
