mod Within
mod Ordinary
mod FewDecimals
