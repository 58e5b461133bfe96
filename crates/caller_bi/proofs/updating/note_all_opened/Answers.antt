use Rattle.std.proofs.Common.{◌<◌, ◌+◌, ◌^◌, rules}
use Rattle.iddqd_bi.proofs.CallerLemmas.Calling.{takes_by_items}
use Rattle.caller_bi.specs.declared.items.File.{File}
use Rattle.caller_bi.proofs.updating.note_all_opened.Goals as goal

pub update_all-requires : goal.update_all-requires
update_all-requires c = takes_by_items _ (λ (f : File). f.opened + 1 < 2 ^ 64) (λ q f below. search rules) _ _ c.requires
