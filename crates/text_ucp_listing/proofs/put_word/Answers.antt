-- `text_ucp_listing::put_word` meets its contract. Assumes nothing.
use Rattle.std.proofs.Common.{length, refl, ◌∙◌, arith}
use Rattle.std.proofs.lemmas.Slice.{put_mid-paste}
use Rattle.text_ucp_listing.proofs.Whole.{copied}
use Rattle.text_ucp_listing.proofs.put_word.Goals as goal

pub returns : goal.returns
returns c =
    let a = c.args in
    let word = a.word.now in
    record {
      ends = refl;
      leaves = put_mid-paste _ _ _ _ word (length word) c.copy_from_slice.ensures.after (omega arith) refl ∙ copied a.text.now word a.at c.requires;
    }
