use Rattle.recovery.proofs.Loaded.{flat-loaded, kept-loaded}
use Rattle.recovery.proofs.page_table.PageTable.load.Goals as goal

pub returns-clause-pages : goal.returns-clause-pages
returns-clause-pages c =
    flat-loaded c.args.self.now c.args.given.now c.requires.cleared c.requires.states c.requires.fragments _ _ c.copy_to_front.ensures c.copy_to_front-2.ensures

pub returns-clause-kept : goal.returns-clause-kept
returns-clause-kept c =
    kept-loaded c.args.self.now c.args.given.now c.requires.cleared c.requires.states c.requires.fragments _ _ c.copy_to_front.ensures c.copy_to_front-2.ensures
