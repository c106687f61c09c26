pub mod CacheLists
