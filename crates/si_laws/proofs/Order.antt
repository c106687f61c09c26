-- The order of versions at the master of their key.
-- So overlapping writers are kept apart: the law Apart.

pub mod MasterFacts
pub mod OrderKept
pub mod OrderAtMaster
pub mod CertifiedVersions
pub mod WritersApart
