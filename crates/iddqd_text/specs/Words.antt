-- Words.
use Rattle.std.specs.Prelude.{ℕ, List, codes, Option, Some, None, if◌then◌else◌}
use Rattle.iddqd_text.specs.Texts.{is_text}
use Rattle.iddqd_text.specs.declared.words.Word.{Word}
use Rattle.iddqd_text.specs.declared.words.Word.TheVariants.{New, Get1, Get2, Get3, Del1, Both, Del2, Del3, DelBoth}
use Rattle.iddqd_text.specs.declared.words.Word.TheVariants.{Len, Put, Reserve, Fit, Clear, List as ListAll, Replace1}
use Rattle.iddqd_text.specs.declared.words.Word.TheVariants.{Set1, EntPut, EntDel, OrPut, AddAll}

-- the word without a key that the bytes spell
abbrev pub word_without_key : List ℕ → Option Word
word_without_key bytes =
    if is_text bytes (codes "len") then Some Len else
    if is_text bytes (codes "reserve") then Some Reserve else
    if is_text bytes (codes "fit") then Some Fit else
    if is_text bytes (codes "clear") then Some Clear else
    if is_text bytes (codes "list") then Some ListAll else
    if is_text bytes (codes "addall") then Some AddAll else
    None

-- the word that the bytes spell
abbrev pub word_of : List ℕ → Option Word
word_of bytes =
    if is_text bytes (codes "new") then Some New else
    if is_text bytes (codes "get1") then Some Get1 else
    if is_text bytes (codes "get2") then Some Get2 else
    if is_text bytes (codes "get3") then Some Get3 else
    if is_text bytes (codes "both") then Some Both else
    if is_text bytes (codes "del1") then Some Del1 else
    if is_text bytes (codes "del2") then Some Del2 else
    if is_text bytes (codes "del3") then Some Del3 else
    if is_text bytes (codes "delboth") then Some DelBoth else
    if is_text bytes (codes "put") then Some Put else
    if is_text bytes (codes "replace1") then Some Replace1 else
    if is_text bytes (codes "set1") then Some Set1 else
    if is_text bytes (codes "entput") then Some EntPut else
    if is_text bytes (codes "entdel") then Some EntDel else
    if is_text bytes (codes "orput") then Some OrPut else
    word_without_key bytes
