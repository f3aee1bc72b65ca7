use Rattle.lq_band_laws.proofs.StoredKept.{decides, settles, gives}
use Rattle.lq_band_laws.proofs.laws.fate_words_stand.Goals as goal

pub returns-clause-stored : goal.returns-clause-stored
returns-clause-stored c count words u fates p n none_ = p.stored n none_

pub returns-clause-decided : goal.returns-clause-decided
returns-clause-decided c count words u u' fates fates' ns p sum few new old = decides count words u fates p u' fates' ns sum few new old

pub returns-clause-settled : goal.returns-clause-settled
returns-clause-settled c count words u u' fates n f p inside is less same = settles count words u fates p u' n f inside is less same

pub returns-clause-given : goal.returns-clause-given
returns-clause-given c count words u u' fates fates' n f p inside new is same old = gives count words u fates p u' fates' n f inside new is same old
