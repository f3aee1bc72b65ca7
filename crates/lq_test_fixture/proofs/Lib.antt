-- hosts on which every name may be opened and created
pub mod NameLemmas
